-- What a report says of the jobs that were passed in holds of its records.
use Rattle.std.proofs.Common.{◌≡◌, ◌<◌, ◌≤◌, ◌+◌, ◌==◌, ◌%◌, ℕ, Bool, true, zero, suc, List, [], ◌∷◌, None, false, All, arith, length, map, refl, sym, ap, ◌∙◌, subst, Some, slice_get}
use Rattle.std.specs.Prelude.{Contains, if◌then◌else◌}
use Rattle.std.proofs.lemmas.List.Elements.{All-append, All-cons, All-from_recursion, All-head, All-nil, All-tail}
use Rattle.std.proofs.lemmas.List.Sorted.{All-permutation, IsPermutation-sym}
use Rattle.std.proofs.lemmas.Option.{get_or_from_slice_get, slice_get_within}
use Rattle.drm_types.specs.Limits.{spec_fault}
use Rattle.drm_types.specs.declared.spec.DeviceSpec.{DeviceSpec}
use Rattle.drm_job.specs.declared.Draft.{Draft}
use Rattle.drm_job.specs.Fault.{IsJob}
use Rattle.drm_job.specs.Laws.{JobsRunInTheirDevice}
use Rattle.drm_job.specs.Ranges.{RunsIn}
use Rattle.drm_serial.specs.Laws.{SerialKeepsSizes}
use Rattle.drm_serial.specs.Serial.{Turn}
use Rattle.drm_state.specs.declared.journal.JobRecord.{JobRecord}
use Rattle.drm_state.specs.Journal.{turns}
use Rattle.drm_state.specs.Lawful.{IsSound}
use Rattle.drm_workers.specs.declared.report.Report.{Report}
use Rattle.drm_workers.specs.Jobs.{AreJobsOf, numbers_from}
use Rattle.drm_workers.specs.Reports.{AreArmed, IsReport, all_items}
use Rattle.drm_workers.specs.Shares.{share_from, share_of}
use Rattle.drm_journal.specs.Leaving.{AreLeft}
use Rattle.drm_script.specs.Run.{AreRunnable, IsRunnable}
use Rattle.drm_run.specs.Runs.{IsTold}

-- the job of the record of this number has the property
abbrev HoldsAt : (Draft → Type 0) → List JobRecord → ℕ → Type 0
HoldsAt P records number = (r : JobRecord) → slice_get records number ≡ Some r → P r.job

same_some : {X : Type 0} (x y : X) → Some x ≡ Some y → x ≡ y
same_some x y is = cc (is)

of_share : (P : Draft → Type 0) (n s place : ℕ) (jobs : List Draft) → All P jobs → All P (share_from n s place jobs)
of_share P n s place [] all = all
of_share P n s place (x ∷ xs) all =
    let rest = of_share P n s (place + 1) xs (All-tail P x xs all) in
    elim (place % n == s) as (λ (b : Bool). All P (if b then x ∷ share_from n s (place + 1) xs else share_from n s (place + 1) xs)) [
      | true ↦ All-cons P x (share_from n s (place + 1) xs) (All-head P x xs all) rest
      | false ↦ rest
    ]

of_numbers : (P : Draft → Type 0) (records : List JobRecord) (ns : List ℕ) (jobs : List Draft) → AreJobsOf records ns jobs → All P jobs → All (HoldsAt P records) ns
of_numbers P records [] [] are all = All-nil (HoldsAt P records)
of_numbers P records [] (job ∷ jobs) are all = absurd are
of_numbers P records (n ∷ ns) [] are all = absurd are
of_numbers P records (n ∷ ns) (job ∷ jobs) are all =
    All-cons (HoldsAt P records) n ns
    (λ r at. subst P (sym are.0.2 ∙ ap (λ (x : JobRecord). x.job) (same_some are.0.0 r (sym are.0.1 ∙ at))) (All-head P job jobs all))
    (of_numbers P records ns jobs are.1 (All-tail P job jobs all))

of_lists : {V : Type 0} (Q : ℕ → Type 0) (items : V → List ℕ) (vs : List V) → ((s : ℕ) (v : V) → slice_get vs s ≡ Some v → All Q (items v)) → All Q (all_items items vs)
of_lists Q items [] each = All-nil Q
of_lists Q items (v ∷ vs) each = All-append Q (items v) (all_items items vs) (each zero v refl) (of_lists Q items vs (λ s w at. each (suc s) w at))

at_number : (Q : ℕ → Type 0) (low k : ℕ) (records : List JobRecord) → All Q (numbers_from low records) → k < length records → Q (low + k)
at_number Q low k [] all lt = absurd (omega (arith, lt))
at_number Q low zero (r ∷ rs) all lt = let same : low ≡ low + 0 = omega arith in subst Q same (All-head Q low (numbers_from (low + 1) rs) all)
at_number Q low (suc k) (r ∷ rs) all lt =
    let same : low + 1 + k ≡ low + suc k = omega arith in
    subst Q same (at_number Q (low + 1) k rs (All-tail Q low (numbers_from (low + 1) rs) all) (omega (arith, lt)))

-- what holds of each job that was passed in holds of the job of each record
of_armed : {V : Type 0} (P : Draft → Type 0) (items : V → List ℕ) (records : List JobRecord) (n : ℕ) (jobs : List Draft) (armed : List V) → AreArmed items records n jobs armed → All P jobs
    → (number : ℕ) (r : JobRecord) → slice_get records number ≡ Some r → P r.job
of_armed P items records n jobs armed are all number r at =
    let told : All (HoldsAt P records) (all_items items armed) =
    of_lists (HoldsAt P records) items armed (λ s v here. of_numbers P records (items v) (share_of n s jobs) (are.order.1 s v here) (of_share P n s 0 jobs all)) in
    let each : All (HoldsAt P records) (numbers_from 0 records) =
    All-permutation (HoldsAt P records) (all_items items armed) (numbers_from 0 records) (IsPermutation-sym (numbers_from 0 records) (all_items items armed) are.numbers) told in
    let none : 0 + number ≡ number = omega arith in
    subst (HoldsAt P records) none (at_number (HoldsAt P records) 0 number records each (slice_get_within records number r at)) r at

-- a job that names no fence
abbrev NamesNone : Draft → Type 0
NamesNone job = job.after ≡ []

none_named : (fences : List ℕ) (fence number : ℕ) → fences ≡ [] → Contains fences fence → fence < number
none_named [] fence number is has = absurd (let lt = has.1 in omega (arith, lt))
none_named (f ∷ fs) fence number is has = absurd (cc (is))

each_is : (spec : DeviceSpec) (jobs : List Draft) → AreRunnable spec jobs → All (IsRunnable spec) jobs
each_is spec jobs are = All-from_recursion (IsRunnable spec) jobs are

turns_fit : JobsRunInTheirDevice → (spec : DeviceSpec) (records : List JobRecord) → All (λ r. IsJob spec r.job) records → All (λ (t : Turn). RunsIn spec.buffers t.job) (turns records)
turns_fit run spec [] all = All-nil (λ (t : Turn). RunsIn spec.buffers t.job)
turns_fit run spec (r ∷ rs) all =
    All-cons (λ (t : Turn). RunsIn spec.buffers t.job) (record { job = r.job; ran = r.ran }) (turns rs) (run spec r.job spec.buffers (All-head (λ (x : JobRecord). IsJob spec x.job) r rs all) refl)
    (turns_fit run spec rs (All-tail (λ (x : JobRecord). IsJob spec x.job) r rs all))

-- what a run of such jobs has left can be told
pub told : JobsRunInTheirDevice → SerialKeepsSizes → (spec : DeviceSpec) (jobs : List Draft) (n : ℕ) (r : Report) → spec_fault spec ≡ None → AreRunnable spec jobs → length jobs ≤ spec.max_jobs
    → IsReport spec jobs n r → IsTold r.closed
told run keep spec jobs n r none are few is =
    let records = r.closed.records in
    let named : (number : ℕ) (x : JobRecord) → slice_get records number ≡ Some x → NamesNone x.job =
    of_armed NamesNone (λ v. v.items) records n jobs r.armed.items is.armed (λ k d lt. (each_is spec jobs are k d lt).1) in
    let sound : (number : ℕ) (x : JobRecord) → slice_get records number ≡ Some x → IsSound spec x =
    λ number x at. subst (IsSound spec) (get_or_from_slice_get records number x x at) (is.sound number x (slice_get_within records number x at)) in
    let left : AreLeft spec records = λ number x at. record {
      job = (sound number x at).job;
      place = record {
        given = let lt = slice_get_within records number x at in omega (arith, lt, is.complete.count, few);
        after = λ fence has. none_named x.job.after fence number (named number x at) has;
      };
      ran = (sound number x at).ran;
      outcome = (sound number x at).outcome;
    } in
    let fits : All (λ (t : Turn). RunsIn spec.buffers t.job) (turns records) =
    turns_fit run spec records (λ k d lt. (is.sound k d lt).job) in
    let parts : (spec_fault r.closed.spec ≡ None) × (AreLeft r.closed.spec records × (map length r.closed.buffers.bytes ≡ map length r.closed.spec.buffers)) =
    subst (λ (s : DeviceSpec). (spec_fault s ≡ None) × (AreLeft s records × (map length r.closed.buffers.bytes ≡ map length s.buffers))) (sym is.device)
    (none, (left, ap (map length) is.bytes ∙ keep (turns records) spec.buffers fits)) in
    record {
      limits = parts.0;
      left = parts.1.0;
      sizes = parts.1.1;
      inside = subst (λ (s : DeviceSpec). (b : ℕ) → b < length s.buffers → slice_get r.closed.buffers.out b ≡ Some false) (sym is.device) is.inside;
    }
