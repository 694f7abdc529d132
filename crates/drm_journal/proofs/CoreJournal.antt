-- What a device or a core leaves is a journal.
use Rattle.std.proofs.Common.{◌≡◌, ℕ, suc, ◌+◌, ◌<◌, ◌≤◌, Bool, true, ◌&&◌, List, [], ◌∷◌, map, length, Some, None, Result, Ok, Err, refl, sym, ap, subst, ◌∙◌, arith, slice_get, get_or}
use Rattle.std.specs.Prelude.{Contains, IfOk, IsTrue, is_none, nat_lt}
use Rattle.std.specs.List.{list_all}
use Rattle.std.proofs.lemmas.Bool.{and_from, lt-ltb, le-leb, eq-eqb}
use Rattle.std.proofs.lemmas.List.{get_or_default, length-map}
use Rattle.std.proofs.lemmas.List.Sums.{list_all-from_AllPass}
use Rattle.drm_types.specs.Limits.{spec_fault}
use Rattle.drm_types.specs.declared.outcome.Outcome.TheVariants.{Good, Cancelled, Stopped}
use Rattle.drm_types.specs.declared.spec.DeviceSpec.{DeviceSpec}
use Rattle.drm_job.specs.Fault.{IsJob}
use Rattle.drm_job.specs.declared.Draft.{Draft}
use Rattle.drm_fence.specs.Phases.{outcome_of, status_of}
use Rattle.drm_fence.specs.declared.phase.Phase.{Phase}
use Rattle.drm_fence.specs.declared.phase.Phase.TheVariants.{Queued, Scheduled, Ended}
use Rattle.drm_serial.specs.Serial.{serial}
use Rattle.drm_state.specs.declared.journal.JobRecord.{JobRecord}
use Rattle.drm_state.specs.Journal.{turns}
use Rattle.drm_state.specs.Lawful.{HasRightOutcome}
use Rattle.drm_core.specs.Headline.{Promises, TellsOutcome}
use Rattle.drm_core.specs.State.{CoreState}
use Rattle.drm_journal.specs.declared.journal.JournalJob.{JournalJob}
use Rattle.drm_parse.specs.Job.{is_job}
use Rattle.drm_journal.specs.Journal.{JournalParts, AreRecords, IsJournal, is_record, has_place, may_have_run}
use Rattle.drm_journal.specs.Leaving.{IsLeft, AreLeft, turn_of, left_by, told_of, journal_told, journal_left}

job_taken : (spec : DeviceSpec) (job : Draft) → IsJob spec job → is_job spec job ≡ true
unfolding is_job
job_taken spec job is = ap is_none is

ran_within : (r : JobRecord) (phase : Phase) → HasRightOutcome r phase → r.ran ≤ length r.job.packets → may_have_run (outcome_of phase) (length r.job.packets) r.ran ≡ true
ran_within r Queued right ran = le-leb r.ran (length r.job.packets) ran
ran_within r Scheduled right ran = le-leb r.ran (length r.job.packets) ran
ran_within r (Ended Good) right ran = eq-eqb r.ran (length r.job.packets) right.0
ran_within r (Ended Cancelled) right ran = le-leb r.ran (length r.job.packets) ran
ran_within r (Ended Stopped) right ran = eq-eqb r.ran 0 right

record_told : (spec : DeviceSpec) (number : ℕ) (r : JobRecord) → IsLeft spec number r → is_record spec number (told_of r) ≡ true
record_told spec number r left =
    and_from (is_job spec r.job) (has_place spec.max_jobs number (told_of r)) (job_taken spec r.job left.job)
    (and_from (nat_lt number spec.max_jobs && list_all before r.job.after) (may_have_run (outcome_of r.phase) (length r.job.packets) r.ran)
    (and_from (nat_lt number spec.max_jobs) (list_all before r.job.after) (lt-ltb number spec.max_jobs left.place.given)
    (list_all-from_AllPass before r.job.after (λ k d here. lt-ltb (get_or r.job.after k d) number (left.place.after (get_or r.job.after k d) (contains r.job.after k d here)))))
    (ran_within r r.phase left.outcome left.ran))
  where
    before : ℕ → Bool
    before f = nat_lt f number

    contains : (xs : List ℕ) (k d : ℕ) → k < length xs → Contains xs (get_or xs k d)
    contains xs k d here = (k, here, get_or_default xs k (get_or xs k d) d here)

records_told : (spec : DeviceSpec) (n : ℕ) (journal : List JobRecord)
    → ((k : ℕ) (r : JobRecord) → slice_get journal k ≡ Some r → IsTrue (is_record spec (n + k) (told_of r))) → AreRecords spec n (map told_of journal)
records_told spec n [] each = tt
records_told spec n (r ∷ journal) each = (
  subst (λ m. is_record spec m (told_of r) ≡ true) (let q : n + 0 ≡ n = omega arith in q) (each 0 r refl),
  records_told spec (n + 1) journal (λ k x at. subst (λ m. is_record spec m (told_of x) ≡ true) (let q : n + suc k ≡ n + 1 + k = omega arith in q) (each (suc k) x at)),
)

-- what a device leaves is a journal
pub is_journal : (spec : DeviceSpec) (records : List JobRecord) (bytes : List (List ℕ)) → AreLeft spec records → spec_fault spec ≡ None → map length bytes ≡ map length spec.buffers
    → IsJournal (journal_told spec records bytes)
is_journal spec records bytes left limits sizes = (
  limits,
  records_told spec 0 records (λ k r at. subst (λ m. is_record spec m (told_of r) ≡ true) (let q : k ≡ 0 + k = omega arith in q) (record_told spec k r (left k r at))),
  sizes,
)

map_twice : {X Y Z : Type 0} (f : X → Y) (g : Y → Z) (xs : List X) → map g (map f xs) ≡ map (λ x. g (f x)) xs
map_twice f g [] = refl
map_twice f g (x ∷ xs) = ap (λ r. g (f x) ∷ r) (map_twice f g xs)

-- and its jobs leave its last bytes
pub told_checks : (spec : DeviceSpec) (records : List JobRecord) (bytes : List (List ℕ)) → bytes ≡ serial spec.buffers (turns records) → left_by (journal_told spec records bytes) ≡ bytes
told_checks spec records bytes are = ap (serial spec.buffers) (map_twice told_of turn_of records) ∙ sym are

-- lists of the same lengths are as many
pub as_many : (xs ys : List (List ℕ)) → map length xs ≡ map length ys → length xs ≡ length ys
as_many xs ys same = sym (length-map xs length) ∙ ap length same ∙ length-map ys length

-- the parts of what was told are the journal
pub parts_told : (spec : DeviceSpec) (records : List JobRecord) (bytes : List (List ℕ)) (jobs : List JournalJob) (finals : List (List ℕ)) → jobs ≡ map told_of records → finals ≡ bytes
    → journal_told spec records bytes ≡ record { spec = spec; jobs = jobs; finals = finals }
parts_told spec records bytes jobs finals of_jobs of_finals = cc (of_jobs, of_finals)

-- ---- cores

right_outcome : (r : JobRecord) (phase : Phase) → r.phase ≡ phase → TellsOutcome r → HasRightOutcome r phase
right_outcome r Queued is tells = tt
right_outcome r Scheduled is tells = tt
right_outcome r (Ended Good) is tells = tells.good (ap status_of is)
right_outcome r (Ended Cancelled) is tells = tells.cancelled (ap status_of is)
right_outcome r (Ended Stopped) is tells = tells.stopped (ap status_of is)

core_left : (s : CoreState) → Promises s.device.spec s → AreLeft s.device.spec s.device.journal
core_left s promises = λ number r at.
    let taken = promises.jobs number r at in
    record { job = taken.job; place = taken.place; ran = taken.ran; outcome = right_outcome r r.phase refl (promises.outcomes number r at) }

-- what a core leaves is what a device leaves
pub core_leaves : (s : CoreState) (spec : DeviceSpec) (records : List JobRecord) → spec ≡ s.device.spec → records ≡ s.device.journal → Promises s.device.spec s → AreLeft spec records
core_leaves s spec records of_spec of_records promises =
    subst (λ (sp : DeviceSpec). AreLeft sp records) (sym of_spec) (subst (λ (rs : List JobRecord). AreLeft s.device.spec rs) (sym of_records) (core_left s promises))

-- and leaves the bytes of its jobs
pub core_bytes : (s : CoreState) (spec : DeviceSpec) (records : List JobRecord) (bytes : List (List ℕ)) → spec ≡ s.device.spec → records ≡ s.device.journal → bytes ≡ s.device.memory
    → Promises s.device.spec s → bytes ≡ serial spec.buffers (turns records)
core_bytes s spec records bytes of_spec of_records of_bytes promises =
    of_bytes ∙ promises.bytes
    ∙ ap (λ (sp : DeviceSpec). serial sp.buffers (turns s.device.journal)) (sym of_spec)
    ∙ ap (λ (rs : List JobRecord). serial spec.buffers (turns rs)) (sym of_records)

-- what is told of it is its journal
pub core_told : {E : Type 0} (s : CoreState) (spec : DeviceSpec) (records : List JobRecord) (bytes : List (List ℕ)) (result : Result JournalParts E) → spec ≡ s.device.spec → records ≡ s.device.journal
    → bytes ≡ s.device.memory → IfOk result (λ j. j ≡ journal_told spec records bytes) → IfOk result (λ j. j ≡ journal_left s)
core_told s spec records bytes result of_spec of_records of_bytes told =
    subst (λ (p : JournalParts). IfOk result (λ j. j ≡ p)) (cc (of_spec, of_records, of_bytes)) told

-- a journal's jobs leave its last bytes, where the bytes are those of the jobs
pub then_checks : {E A : Type 0} (result : Result JournalParts E) → IfOk result (λ j. A → left_by j ≡ j.finals) → A → IfOk result (λ j. left_by j ≡ j.finals)
then_checks (Ok journal) holds a = holds a
then_checks (Err e) holds a = tt
