-- Events that stand without their jobs, joined with these.
use Rattle.std.proofs.Common.{◌≡◌, ℕ, ◌+◌, ◌<◌, Bool, true, false, cond, List, [], ◌∷◌, ◌++◌, append-nil, length, length-append, Option, Some, None, Result, Ok, Err, refl, sym, ap, ◌∙◌, arith, true≢false}
use Rattle.std.specs.Prelude.{count_by, is_some, MatchOption, OnOk}
use Rattle.std.specs.Option.{ForSome}
use Rattle.std.proofs.lemmas.List.Sums.{sum_by-append, sum_by-cons}
use Rattle.drm_core.specs.declared.event.Event.{Event}
use Rattle.drm_core.specs.declared.event.Event.TheVariants as event
use Rattle.drm_job.specs.declared.Draft.{Draft}
use Rattle.drm_text.specs.Cut.{Words}
use Rattle.drm_text.specs.Reading.{Gives}
use Rattle.drm_text.specs.declared.fault.ReadError.{ReadError}
use Rattle.drm_text.specs.declared.fault.ReadError.TheVariants as errors
use Rattle.drm_script.specs.Commands.{with_job_at}
use Rattle.drm_parse.specs.Job.{job_at}
use Rattle.drm_script.specs.Kept.{AreMatched, Kept, brings_job, event_of, event_with, joined, next_joined}

abbrev jobs_of : Kept → ℕ
jobs_of kept = cond (brings_job kept) 1 0

counted_first : (k : Kept) (ks : List Kept) → count_by brings_job (k ∷ ks) ≡ jobs_of k + count_by brings_job ks
counted_first k ks = sum_by-cons jobs_of k ks

counted_last : (k : Kept) (ks : List Kept) → count_by brings_job (ks ++ k ∷ []) ≡ count_by brings_job ks + jobs_of k
counted_last k ks =
    let one = counted_first k [] in
    let all = sum_by-append jobs_of ks (k ∷ []) in
    omega (arith, one, all)

-- ---- at the end

-- what comes of an event and those behind it, where more comes of those behind it
more_behind : (k : Kept) (brings : Bool) (longer rest : List Draft → List (Event Draft)) (js added : List Draft) (tail : List (Event Draft)) (n : ℕ) → cond brings 1 0 + n ≡ length js
    → ((left : List Draft) → n ≡ length left → longer (left ++ added) ≡ rest left ++ tail)
    → next_joined brings k longer (js ++ added) ≡ next_joined brings k rest js ++ tail
more_behind k false longer rest js added tail n matched each = ap (λ (es : List (Event Draft)). event_of k ∷ es) (each js (omega (arith, matched)))
more_behind k true longer rest [] added tail n matched each = absurd (omega (arith, matched))
more_behind k true longer rest (j ∷ js) added tail n matched each = ap (λ (es : List (Event Draft)). event_with k j ∷ es) (each js (omega (arith, matched)))

joined_behind : (k : Kept) (added : List Draft) (tail : List (Event Draft)) → joined (k ∷ []) added ≡ tail → (ks : List Kept) (js : List Draft) → AreMatched ks js
    → joined (ks ++ k ∷ []) (js ++ added) ≡ joined ks js ++ tail
joined_behind k added tail last [] [] matched = last
joined_behind k added tail last [] (j ∷ js) matched = absurd (omega (arith, matched))
joined_behind k added tail last (h ∷ ks) js matched =
    more_behind h (brings_job h) (joined (ks ++ k ∷ [])) (joined ks) js added tail (count_by brings_job ks) (sym (counted_first h ks) ∙ matched)
    (λ left same. joined_behind k added tail last ks left same)

-- an event that brings no job comes behind the others
pub joined_alone : (k : Kept) (ks : List Kept) (js : List Draft) → brings_job k ≡ false → AreMatched ks js → joined (ks ++ k ∷ []) js ≡ joined ks js ++ event_of k ∷ []
joined_alone k ks js is matched =
    ap (joined (ks ++ k ∷ [])) (sym (append-nil js)) ∙ joined_behind k [] (event_of k ∷ []) (ap (λ b. next_joined b k (joined []) []) is) ks js matched

pub matched_alone : (k : Kept) (ks : List Kept) (js : List Draft) → brings_job k ≡ false → AreMatched ks js → AreMatched (ks ++ k ∷ []) js
matched_alone k ks js is matched =
    let none : jobs_of k ≡ 0 = ap (λ (b : Bool). cond b 1 0) is in
    omega (arith, counted_last k ks, none, matched)

-- and so does one that brings a job, with this behind the other jobs
pub joined_with : (k : Kept) (j : Draft) (ks : List Kept) (js : List Draft) → brings_job k ≡ true → AreMatched ks js → joined (ks ++ k ∷ []) (js ++ j ∷ []) ≡ joined ks js ++ event_with k j ∷ []
joined_with k j ks js is matched = joined_behind k (j ∷ []) (event_with k j ∷ []) (ap (λ b. next_joined b k (joined []) (j ∷ [])) is) ks js matched

-- ---- at the front

-- where the first event brings a job there is one
pub has_job : (k : Kept) (ks : List Kept) (js : List Draft) → brings_job k ≡ true → AreMatched (k ∷ ks) js → 0 < length js
has_job k ks js is matched =
    let one : jobs_of k ≡ 1 = ap (λ (b : Bool). cond b 1 0) is in
    omega (arith, counted_first k ks, one, matched)

-- the others have the other jobs
pub rest_alone : (k : Kept) (ks : List Kept) (js : List Draft) → brings_job k ≡ false → AreMatched (k ∷ ks) js → AreMatched ks js
rest_alone k ks js is matched =
    let none : jobs_of k ≡ 0 = ap (λ (b : Bool). cond b 1 0) is in
    omega (arith, counted_first k ks, none, matched)

pub rest_with : (k : Kept) (ks : List Kept) (js left : List Draft) (j : Draft) → brings_job k ≡ true → js ≡ j ∷ left → AreMatched (k ∷ ks) js → AreMatched ks left
rest_with k ks js left j is same matched =
    let one : jobs_of k ≡ 1 = ap (λ (b : Bool). cond b 1 0) is in
    let longer : length js ≡ length (j ∷ left) = ap (λ (l : List Draft). length l) same in
    omega (arith, counted_first k ks, one, matched, longer)

-- ---- one that brings no job

-- it is neither a submission nor a plan
pub brings_none : (k : Kept) → ((job : Unit {0}) → k ≡ event.Submit job → ⊥) → ((ctx : ℕ) (job : Unit {0}) → k ≡ event.Plan ctx job → ⊥) → brings_job k ≡ false
brings_none (event.Submit job) no_submission no_plan = absurd (no_submission job refl)
brings_none (event.Plan ctx job) no_submission no_plan = absurd (no_plan ctx job refl)
brings_none other no_submission no_plan = refl

-- nothing is asked of its job, and what holds where there is no job holds of it
pub none_asked : (o : Option (Unit {0})) (P : Unit {0} → Type 0) → is_some o ≡ false → ForSome o P
none_asked None P none = λ job is. absurd (cc (is))
none_asked (Some job) P none = absurd (true≢false none)

pub at_none : (o : Option (Unit {0})) (A : Type 0) (B : Unit {0} → Type 0) → is_some o ≡ false → MatchOption o A B → A
at_none None A B none holds = holds
at_none (Some job) A B none holds = absurd (true≢false none)

-- it comes before the others
pub first_alone : (k : Kept) (ks : List Kept) (js : List Draft) (e : Event Draft) → brings_job k ≡ false → e ≡ event_of k → joined (k ∷ ks) js ≡ e ∷ joined ks js
first_alone k ks js e none is = ap (λ b. next_joined b k (joined ks) js) none ∙ ap (λ (first : Event Draft). first ∷ joined ks js) (sym is)

-- ---- one that is read

-- an event with the job that is read behind its line comes behind the others, and a fault is that of the job
pub joined_read : (k : Kept) (ks : List Kept) (js : List Draft) (events : List (Event Draft)) (j : Draft) (r : Result (Unit {0}) ReadError) (words : Words) → brings_job k ≡ true → AreMatched ks js → joined ks js ≡ events
    → Gives (λ _. j) r (job_at words) → Gives (λ _. joined (ks ++ k ∷ []) (js ++ j ∷ [])) r (with_job_at events (event_with k) words)
joined_read k ks js events j (Ok done) words is matched same read =
    rw read (ap Ok (ap (λ es. es ++ event_with k j ∷ []) (sym same) ∙ sym (joined_with k j ks js is matched)))
joined_read k ks js events j (Err errors.Memory) words is matched same read = tt
joined_read k ks js events j (Err (errors.Fault f)) words is matched same read = rw read refl

pub added_read : (k : Kept) (ks : List Kept) (js : List Draft) (events : List (Event Draft)) (j : Draft) (r : Result (Unit {0}) ReadError) → brings_job k ≡ true → AreMatched ks js → joined ks js ≡ events
    → OnOk r ((job : Draft) × (joined (ks ++ k ∷ []) (js ++ j ∷ []) ≡ events ++ event_with k job ∷ []))
added_read k ks js events j (Ok done) is matched same = (j, joined_with k j ks js is matched ∙ ap (λ es. es ++ event_with k j ∷ []) same)
added_read k ks js events j (Err e) is matched same = tt
