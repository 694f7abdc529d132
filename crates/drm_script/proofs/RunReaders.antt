-- Scripts for threads are read as they are spelled, and as nothing else.
use Rattle.std.proofs.Common.{◌≡◌, ℕ, ◌+◌, ◌<◌, ◌≤◌, Bool, true, false, cond, List, [], ◌∷◌, ◌++◌, append_assoc, length, map, Option, Some, None, Result, Ok, Err, refl, sym, ap, subst, ◌∙◌, arith}
use Rattle.std.specs.Prelude.{codes, nat_lt, is_none, IfOk, IsTrue, ◌&&◌}
use Rattle.std.specs.List.{AllByRecursion, join_with_byte}
use Rattle.std.proofs.lemmas.Bool.{and_from, and_parts, ltb-true, ltb-false, lt-ltb, le-ltb}
use Rattle.std.proofs.lemmas.List.{append-nil, length-append}
use Rattle.drm_job.specs.Fault.{job_fault}
use Rattle.drm_job.specs.declared.Draft.{Draft}
use Rattle.drm_types.specs.Firsts.{is_nil}
use Rattle.drm_types.specs.Limits.{spec_fault}
use Rattle.drm_types.specs.declared.spec.DeviceSpec.{DeviceSpec}
use Rattle.drm_text.specs.Cut.{Words, Left}
use Rattle.drm_text.specs.declared.fault.Fault.{Fault}
use Rattle.drm_text.specs.declared.fault.Fault.TheVariants.{Text}
use Rattle.drm_text.specs.declared.fault.ReadError.{ReadError}
use Rattle.drm_text.specs.declared.fault.TextFault.TheVariants as what
use Rattle.drm_text.specs.declared.keywords.Command.TheVariants as command
use Rattle.drm_text.specs.declared.keywords.Keyword.{Keyword}
use Rattle.drm_text.specs.declared.keywords.Keyword.TheVariants as line
use Rattle.drm_text.specs.Keywords.{keyword_text}
use Rattle.drm_text.specs.Lines.{start_at, last_line, lines_of}
use Rattle.drm_text.specs.Reading.{◌>>=◌, Gives}
use Rattle.drm_text.proofs.LineReaders.{AreLines, start_takes, start_again, last_takes, cut_lines}
use Rattle.drm_text.proofs.WordReaders.{bind_ok, ok_is, test_ok, ReadsLine}
use Rattle.drm_script.specs.declared.run_script.RunScript.{RunScript}
use Rattle.drm_parse.specs.Grammar.{Line, job_words, JobFits}
use Rattle.drm_parse.specs.Header.{header_at}
use Rattle.drm_parse.specs.Job.{job_at}
use Rattle.drm_parse.specs.Job.{is_job}
use Rattle.drm_script.specs.Run.{IsRunnable, AreRunnable, is_runnable, runnable_or, run_job_at, submitted_at, run_line, jobs_of, run_of, judge_run}
use Rattle.drm_script.specs.RunGrammar.{submit_words, SpellsRun}
use Rattle.drm_parse.proofs.HeaderReaders.{same_cons}
use Rattle.drm_parse.proofs.SpelledLines.{some_lines, job_graphic}
use Rattle.drm_parse.proofs.HeaderReaders.{as_bytes, left_in, header_takes, header_again}
use Rattle.drm_parse.proofs.JobReaders.{in_time, jobs_read}
use Rattle.drm_parse.proofs.SpelledLines.{header_graphic, lines_are, text_is}

-- ---- which jobs can be run

none_is : {A : Type 0} (o : Option A) → is_none o ≡ true → o ≡ None
none_is None e = refl
none_is (Some x) e = absurd (cc)

nil_is : {A : Type 0} (xs : List A) → is_nil xs ≡ true → xs ≡ []
nil_is [] e = refl
nil_is (x ∷ xs) e = absurd (cc)

runnable_takes : (spec : DeviceSpec) (number : ℕ) (job : Draft) → IsTrue (is_runnable spec number job) → IsRunnable spec job × (number < spec.max_jobs)
unfolding is_job
runnable_takes spec number job is =
    let places = and_parts (is_job spec job && is_nil job.after) (nat_lt number spec.max_jobs) is in
    let parts = and_parts (is_job spec job) (is_nil job.after) places.0 in
    ((none_is (job_fault spec job) parts.0, nil_is job.after parts.1), ltb-true _ _ places.1)

runnable_again : (spec : DeviceSpec) (number : ℕ) (job : Draft) → IsRunnable spec job → number < spec.max_jobs → IsTrue (is_runnable spec number job)
unfolding is_job
runnable_again spec number job is room =
    and_from (is_job spec job && is_nil job.after) (nat_lt number spec.max_jobs)
    (and_from (is_job spec job) (is_nil job.after) (ap is_none is.0) (ap is_nil is.1))
    (lt-ltb number spec.max_jobs room)

-- ---- one line

run_jobs_read : (spec : DeviceSpec) (number : ℕ) → ReadsLine (run_job_at spec number) job_words (λ job. JobFits job × IsTrue (is_runnable spec number job))
unfolding run_job_at runnable_or
run_jobs_read spec number = record {
  takes = λ words x e.
      let bad = Text words.line 1 what.BadJob in
      let a = bind_ok (job_at words) (λ draft. runnable_or spec number draft bad) x e in
      let t = test_ok (is_runnable spec number a.0) a.0 x bad a.2 in
      let p = jobs_read.takes words a.0 a.1 in
      subst (λ (y : Draft). (words.rest.parts ≡ job_words y) × (JobFits y × IsTrue (is_runnable spec number y))) t.1 (p.0, (p.1, t.0));
  again = λ words x is fits. rw (jobs_read.again words x is fits.0, fits.1) refl;
}

submitted_takes : (spec : DeviceSpec) (number n : ℕ) (keyword : Keyword) (words : Words) (job : Draft) → submitted_at spec number n keyword words ≡ Ok job
    → ((keyword_text keyword ∷ words.rest.parts) ≡ submit_words job) × (JobFits job × IsTrue (is_runnable spec number job))
submitted_takes spec number n (line.Command command.Submit) words job e =
    let t = (run_jobs_read spec number).takes words job e in
    (ap (λ (p : Line). codes "submit" ∷ p) t.0, t.1)
submitted_takes spec number n other words job e = absurd (cc)

line_takes : (spec : DeviceSpec) (number n : ℕ) (bytes : List ℕ) (job : Draft) → run_line spec number n bytes ≡ Ok job
    → (bytes ≡ join_with_byte 32 (submit_words job)) × (JobFits job × IsTrue (is_runnable spec number job))
unfolding run_line
line_takes spec number n bytes job e =
    let a = bind_ok (start_at n bytes) (λ start. submitted_at spec number n start.0 start.1) job e in
    let t = submitted_takes spec number n a.0.0 a.0.1 job a.2 in
    (start_takes n bytes a.0 a.1 ∙ ap (join_with_byte 32) t.0, t.1)

line_again : (spec : DeviceSpec) (number n : ℕ) (job : Draft) → JobFits job → IsTrue (is_runnable spec number job)
    → run_line spec number n (join_with_byte 32 (submit_words job)) ≡ Ok job
unfolding run_line
line_again spec number n job fits is =
    let s = start_again n (line.Command command.Submit) (job_words job) (job_graphic job fits) in
    rw s.1 ((run_jobs_read spec number).again s.0 job s.2 (fits, is))

-- ---- all lines behind the header

abbrev Fit : List Draft → Type 0
Fit jobs = AllByRecursion JobFits jobs

counted : (jobs : List Draft) (job : Draft) → length (jobs ++ job ∷ []) ≡ length jobs + 1
counted jobs job = omega (arith, length-append jobs (job ∷ []))

-- where none were before, there is room for the jobs alone
few_alone : (jobs : List Draft) (most : ℕ) → length {A = Draft} [] + length jobs ≤ most → length jobs ≤ most
few_alone jobs most few = omega arith

few_behind : (jobs : List Draft) (most : ℕ) → length jobs ≤ most → length {A = Draft} [] + length jobs ≤ most
few_behind jobs most few = omega arith

-- the lines up to the end of the text are lines of jobs, and there is room for these
jobs_take : (spec : DeviceSpec) (jobs : List Draft) (n : ℕ) (bytes : List ℕ) (more : List (List ℕ)) (all : List Draft) → length jobs ≤ spec.max_jobs → jobs_of spec jobs n bytes more ≡ Ok all
    → (tail : List Draft) × ((bytes ∷ more) ≡ cut_lines (map submit_words tail)) × Fit tail × AreRunnable spec tail × (length jobs + length tail ≤ spec.max_jobs) × (all ≡ jobs ++ tail)
unfolding jobs_of
jobs_take spec jobs n bytes [] all room e =
    let a = bind_ok (last_line n bytes) (λ _. Ok jobs) all e in
    ([], ap (λ (b : List ℕ). b ∷ []) (last_takes n bytes a.0 a.1), tt, tt, omega arith, sym (ok_is jobs all a.2) ∙ sym (append-nil jobs))
jobs_take spec jobs n bytes (next ∷ rest) all room e =
    let a = bind_ok (run_line spec (length jobs) n bytes) (λ x. jobs_of spec (jobs ++ x ∷ []) (n + 1) next rest) all e in
    let first = line_takes spec (length jobs) n bytes a.0 a.1 in
    let runs = runnable_takes spec (length jobs) a.0 first.1.1 in
    let less : length jobs < spec.max_jobs = runs.1 in
    let more_room : length (jobs ++ a.0 ∷ []) ≤ spec.max_jobs = omega (arith, counted jobs a.0) in
    let others = jobs_take spec (jobs ++ a.0 ∷ []) (n + 1) next rest all more_room a.2 in
    let few : length (jobs ++ a.0 ∷ []) + length others.0 ≤ spec.max_jobs = others.4 in
    let fewer : length jobs + length (a.0 ∷ others.0) ≤ spec.max_jobs = omega (arith, counted jobs a.0) in
    (a.0 ∷ others.0, same_cons _ _ _ _ first.0 others.1, (first.1.0, others.2), (runs.0, others.3), fewer, others.5 ∙ append_assoc jobs (a.0 ∷ []) others.0)

-- the jobs of parts that are lines
abbrev jobs_in : DeviceSpec → List Draft → ℕ → List (List ℕ) → Result (List Draft) Fault
jobs_in spec jobs n [] = Ok jobs
jobs_in spec jobs n (bytes ∷ more) = jobs_of spec jobs n bytes more

one_job : (spec : DeviceSpec) (jobs : List Draft) (n : ℕ) (bytes : List ℕ) (more : List (List ℕ)) → 0 < length more
    → jobs_in spec jobs n (bytes ∷ more) ≡ (run_line spec (length jobs) n bytes >>= λ x. jobs_in spec (jobs ++ x ∷ []) (n + 1) more)
unfolding jobs_of
one_job spec jobs n bytes [] some = absurd (omega arith)
one_job spec jobs n bytes (next ∷ rest) some = refl

-- lines of jobs are read as the jobs
jobs_again : (spec : DeviceSpec) (jobs : List Draft) (n : ℕ) (tail : List Draft) → Fit tail → AreRunnable spec tail → length jobs + length tail ≤ spec.max_jobs
    → jobs_in spec jobs n (cut_lines (map submit_words tail)) ≡ Ok (jobs ++ tail)
unfolding jobs_of
jobs_again spec jobs n [] fit are room = ap (λ (js : List Draft). Ok js) (sym (append-nil jobs))
jobs_again spec jobs n (x ∷ tail) fit are room =
    let less : length jobs < spec.max_jobs = omega arith in
    let more_room : length (jobs ++ x ∷ []) + length tail ≤ spec.max_jobs = omega (arith, counted jobs x) in
    one_job spec jobs n (join_with_byte 32 (submit_words x)) (cut_lines (map submit_words tail)) (some_lines (map submit_words tail))
    ∙ ap (λ (r : Result Draft Fault). r >>= λ y. jobs_in spec (jobs ++ y ∷ []) (n + 1) (cut_lines (map submit_words tail)))
    (line_again spec (length jobs) n x fit.0 (runnable_again spec (length jobs) x are.0 less))
    ∙ jobs_again spec (jobs ++ x ∷ []) (n + 1) tail fit.1 are.1 more_room
    ∙ ap (λ (js : List Draft). Ok js) (append_assoc jobs (x ∷ []) tail)

jobs_graphic : (jobs : List Draft) → Fit jobs → AreLines (map submit_words jobs)
jobs_graphic [] fit = tt
jobs_graphic (job ∷ jobs) fit = ((refl, job_graphic job fit.0), jobs_graphic jobs fit.1)

-- ---- scripts for threads

abbrev the_run : DeviceSpec → List Draft → RunScript
the_run spec jobs = record { spec = spec; jobs = jobs }

-- a text that is read as a script for threads spells it
pub run_takes : (text : List ℕ) (script : RunScript) → judge_run text ≡ Ok script → SpellsRun text script
unfolding judge_run SpellsRun
run_takes text script e =
    let short = in_time (nat_lt 1048576 (length text)) (Text 0 0 what.TooLong) (run_of (lines_of text)) script e in
    let a = bind_ok (header_at (lines_of text)) (λ h. jobs_of h.0 [] h.1.line h.1.bytes h.1.more >>= λ jobs. Ok (the_run h.0 jobs)) script short.1 in
    let b = bind_ok (jobs_of a.0.0 [] a.0.1.line a.0.1.bytes a.0.1.more) (λ jobs. Ok (the_run a.0.0 jobs)) script a.2 in
    let h = header_takes (lines_of text) a.0 a.1 in
    let t = jobs_take a.0.0 [] a.0.1.line a.0.1.bytes a.0.1.more b.0 (omega arith) b.1 in
    let same : the_run a.0.0 t.0 ≡ script = ap (the_run a.0.0) (sym t.5) ∙ ok_is (the_run a.0.0 b.0) script b.2 in
    subst (λ (s : RunScript). SpellsRun text s) same (h.0, h.1, t.2, t.3, few_alone t.0 a.0.0.max_jobs t.4, text_is text h.0 (map submit_words t.0) a.0.1 h.2 t.1, ltb-false _ _ short.0)

jobs_left : (spec : DeviceSpec) (n : ℕ) (parts : List (List ℕ)) → 0 < length parts → jobs_of spec [] (left_in n parts).line (left_in n parts).bytes (left_in n parts).more ≡ jobs_in spec [] n parts
jobs_left spec n [] some = absurd (omega arith)
jobs_left spec n (bytes ∷ more) some = refl

-- a text that spells a script for threads is read as it
pub run_again : (text : List ℕ) (script : RunScript) → SpellsRun text script → judge_run text ≡ Ok script
unfolding judge_run SpellsRun
run_again text script spells =
    let header = spells.0 in
    let rest = map submit_words script.jobs in
    let lines : lines_of text ≡ left_in 1 (as_bytes header ++ cut_lines rest) =
    lines_are text header rest (header_graphic header script.spec spells.1) (jobs_graphic script.jobs spells.2) spells.5 in
    let short : nat_lt 1048576 (length text) ≡ false = le-ltb _ _ spells.6 in
    let h = header_again 1 header script.spec (cut_lines rest) spells.1 (some_lines rest) in
    let jobs = jobs_left script.spec h.0 (cut_lines rest) (some_lines rest) ∙ jobs_again script.spec [] h.0 script.jobs spells.2 spells.3 (few_behind script.jobs script.spec.max_jobs spells.4) in
    ap (λ (b : Bool). cond b (Err (Text 0 0 what.TooLong)) (run_of (lines_of text))) short
    ∙ ap run_of lines
    ∙ ap (λ (r : Result (DeviceSpec × Left) Fault). r >>= λ h. jobs_of h.0 [] h.1.line h.1.bytes h.1.more >>= λ jobs. Ok (the_run h.0 jobs)) h.1
    ∙ ap (λ (r : Result (List Draft) Fault). r >>= λ js. Ok (the_run script.spec js)) jobs

pub run_found : (text : List ℕ) (result : Result RunScript ReadError) → Gives (λ s. s) result (judge_run text) → IfOk result (λ s. SpellsRun text s)
run_found text (Ok script) gives = run_takes text script gives
run_found text (Err e) gives = tt

pub run_only : (text : List ℕ) (result : Result RunScript ReadError) → Gives (λ s. s) result (judge_run text) → (script : RunScript) → SpellsRun text script → Gives (λ s. s) result (Ok script)
run_only text result gives script spells = subst (λ (judged : Result RunScript Fault). Gives (λ s. s) result judged) (run_again text script spells) gives

-- what was read is of a device within its limits, and its jobs can be run there
pub run_fits : (text : List ℕ) (result : Result RunScript ReadError) → IfOk result (λ s. SpellsRun text s) → IfOk result (λ s. spec_fault s.spec ≡ None)
unfolding SpellsRun
run_fits text (Ok script) found = found.1.6
run_fits text (Err e) found = tt

pub run_stands : (text : List ℕ) (result : Result RunScript ReadError) → IfOk result (λ s. SpellsRun text s) → IfOk result (λ s. AreRunnable s.spec s.jobs × (length s.jobs ≤ s.spec.max_jobs))
unfolding SpellsRun
run_stands text (Ok script) found = (found.3, found.4)
run_stands text (Err e) found = tt
