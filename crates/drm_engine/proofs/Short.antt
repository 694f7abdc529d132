-- The lines of answers are short, since a buffer has 4,096 bytes at most.
use Rattle.std.proofs.Common.{◌≡◌, ◌+◌, ◌*◌, ◌<◌, ◌≤◌, ℕ, zero, suc, true, List, [], ◌∷◌, None, Some, length, refl, ap, subst, sym, ◌∙◌, arith, inl, inr, slice_get}
use Rattle.std.specs.Prelude.{nat_le, nat_lt}
use Rattle.std.specs.List.{AllByRecursion}
use Rattle.std.proofs.lemmas.Bool.{and_parts, leb-true}
use Rattle.drm_types.specs.declared.spec.BadSpec.{BadSpec}
use Rattle.drm_types.specs.declared.spec.DeviceSpec.{DeviceSpec}
use Rattle.drm_types.specs.Firsts.{first}
use Rattle.drm_types.specs.Limits.{each, is_between, spec_fault, spec_tests}
use Rattle.drm_types.proofs.Firsts.{each_passes, none_at}
use Rattle.drm_buffer.specs.Memory.{bytes_of, sizes_of}
use Rattle.drm_buffer.proofs.Sizes.{size_by_sizes}
use Rattle.drm_job.specs.Ranges.{RunsIn}
use Rattle.drm_job.proofs.InRange.{runs_in}
use Rattle.drm_job.specs.declared.Draft.{Draft}
use Rattle.drm_serial.specs.Serial.{Turn}
use Rattle.drm_serial.proofs.Sizes.{sizes_each}
use Rattle.drm_state.specs.declared.answer.Answer.{Answer}
use Rattle.drm_state.specs.declared.answer.Answer.TheVariants as answer
use Rattle.drm_state.specs.declared.journal.JobRecord.{JobRecord}
use Rattle.drm_state.specs.Choice.{choice, queue_of}
use Rattle.drm_state.specs.Journal.{is_at, turns}
use Rattle.drm_state.specs.Lawful.{IsLawfulDevice, IsSound}
use Rattle.drm_state.specs.Outcomes.{must_stall, stepped_by}
use Rattle.drm_state.specs.Ring.{current_of, head_of}
use Rattle.drm_state.specs.State.{DeviceState}
use Rattle.drm_core.specs.Context.{holder_of, ticket_of, with_holder}
use Rattle.drm_core.specs.Lawful.{IsLawful}
use Rattle.drm_core.specs.Outcomes.{outcome_of_event}
use Rattle.drm_core.specs.Refusals.{plan_of}
use Rattle.drm_core.specs.State.{CoreState}
use Rattle.drm_core.specs.Step.{Step}
use Rattle.drm_core.specs.declared.event.Event.{Event}
use Rattle.drm_core.specs.declared.event.Event.TheVariants as event
use Rattle.drm_core.proofs.HeadlineSteps.{at_any_record, at_cond, at_option, at_timeout, cases_step}
use Rattle.drm_answer.specs.Lines.{line_room}
use Rattle.drm_script.specs.Kept.{AnswersFirst}

-- ---- buffers

-- each job of a device's journal can run in its buffers
turns_run : (spec : DeviceSpec) (records : List JobRecord) → ((i : ℕ) (r : JobRecord) → slice_get records i ≡ Some r → IsSound spec r)
    → AllByRecursion (λ (turn : Turn). RunsIn spec.buffers turn.job) (turns records)
turns_run spec [] sound = tt
turns_run spec (r ∷ rs) sound = (runs_in spec r.job spec.buffers (sound zero r refl).job refl, turns_run spec rs (λ i x at. sound (suc i) x at))

sizes_stay : (device : DeviceState) → IsLawfulDevice device → sizes_of device.memory ≡ sizes_of device.spec.buffers
sizes_stay device lawful =
    ap sizes_of lawful.memory ∙ sizes_each (turns device.journal) device.spec.buffers device.spec.buffers refl (turns_run device.spec device.journal lawful.records)

small_at : (buffers : List (List ℕ)) (buffer : ℕ) → AllByRecursion (λ (bytes : List ℕ). is_between 1 4096 (length bytes) ≡ true) buffers → length (bytes_of buffers buffer) ≤ 4096
small_at [] buffer all = omega arith
small_at (bytes ∷ more) zero all = leb-true (length bytes) 4096 (and_parts (nat_le 1 (length bytes)) (nat_le (length bytes) 4096) all.0).1
small_at (bytes ∷ more) (suc buffer) all = small_at more buffer all.1

small_buffer : (spec : DeviceSpec) (buffer : ℕ) → spec_fault spec ≡ None → length (bytes_of spec.buffers buffer) ≤ 4096
small_buffer spec buffer none =
    let fault : ℕ → BadSpec = λ i. record { part = 1; index = i } in
    small_at spec.buffers buffer (each_passes (λ (bytes : List ℕ). is_between 1 4096 (length bytes)) spec.buffers fault
    (none_at (spec_tests spec) 1 (each 1 (λ bytes. is_between 1 4096 (length bytes)) spec.buffers) none refl))

small : (device : DeviceState) (buffer : ℕ) → IsLawfulDevice device → spec_fault device.spec ≡ None → length (bytes_of device.memory buffer) ≤ 4096
small device buffer lawful none =
    subst (λ n. n ≤ 4096) (sym (size_by_sizes device.memory device.spec.buffers buffer (sizes_stay device lawful))) (small_buffer device.spec buffer none)

-- ---- answers

abbrev IsShort : Answer → Type 0
IsShort a = line_room a ≤ 8199

-- a line that tells no bytes
eighty : 80 ≤ 8199
eighty = omega arith

-- and one that tells those of a buffer
bytes_short : (bytes : List ℕ) → length bytes ≤ 4096 → 7 + 2 * length bytes ≤ 8199
bytes_short bytes few = omega (arith, few)

-- what an event that is not refused answers
outcome_short : (s : CoreState) (e : Event Draft) → ((buffer : ℕ) → length (bytes_of s.device.memory buffer) ≤ 4096) → IsShort (outcome_of_event s e).0
outcome_short s (event.Submit draft) few = eighty
outcome_short s (event.Begin ctx) few = eighty
outcome_short s (event.Try ctx b) few =
    at_option (λ (p : Answer × CoreState). IsShort p.0) _ (holder_of s b) (answer.Held, with_holder s b (Some ctx)) eighty
    (λ h. at_cond (λ (p : Answer × CoreState). IsShort p.0) (nat_lt (ticket_of s h) (ticket_of s ctx)) _ _ eighty eighty)
outcome_short s (event.Done ctx) few = eighty
outcome_short s (event.Drop ctx b) few = eighty
outcome_short s (event.End ctx) few = eighty
outcome_short s (event.Plan ctx draft) few = eighty
outcome_short s (event.Arm ctx) few = at_option (λ (p : Answer × CoreState). IsShort p.0) _ (plan_of s ctx) (answer.Ok, s) eighty (λ job. eighty)
outcome_short s (event.Pick ring now) few =
    at_any_record (λ p. IsShort p.0) s.device _ (answer.Ok, s.device) (choice s.device ring) eighty (λ f r. eighty)
outcome_short s (event.Step ring) few =
    at_any_record (λ p. IsShort p.0) s.device _ (answer.Ok, s.device) (current_of s.device ring) eighty
    (λ f r. at_option (λ (p : Answer × DeviceState). IsShort p.0) (stepped_by s.device f) (slice_get r.job.packets r.ran) (answer.Ok, s.device) eighty
    (λ p. at_cond (λ (q : Answer × DeviceState). IsShort q.0) (is_at s.device.journal f (λ x. must_stall p x.karma.resets)) _ _ eighty eighty))
outcome_short s (event.Finish ring now) few =
    at_any_record (λ p. IsShort p.0) s.device _ (answer.Ok, s.device) (head_of s.device ring) eighty (λ f r. eighty)
outcome_short s (event.Timeout ring now) few =
    at_timeout (λ p. IsShort p.0) s.device ring now (λ a. eighty) eighty eighty (λ f. eighty) (λ f e. eighty)
outcome_short s (event.Cancel e) few = eighty
outcome_short s (event.Reap e) few =
    at_option (λ (p : Answer × DeviceState). IsShort p.0) _ (first (queue_of e s.device.journal)) (answer.Ok, s.device) eighty (λ n. eighty)
outcome_short s (event.Read ctx b) few = bytes_short (bytes_of s.device.memory b) (few b)
outcome_short s (event.Status f) few = eighty
outcome_short s (event.Dump b) few = bytes_short (bytes_of s.device.memory b) (few b)

-- what a lawful core answers has a short line
step_short : (s next : CoreState) (e : Event Draft) (given : Answer) → IsLawful s → spec_fault s.device.spec ≡ None → Step s e given next → line_room given ≤ 8199
step_short s next e given lawful none step =
    elim (cases_step s e given next step) [
      | inl refused ↦ rw refused.answers eighty
      | inr had ↦ rw had.answers (outcome_short s e (λ buffer. small s.device buffer lawful.device none))
    ]

-- so it finds room behind a piece that is not written yet
pub step_fits : (s next : CoreState) (e : Event Draft) (given : Answer) (piece : List ℕ) → IsLawful s → spec_fault s.device.spec ≡ None → Step s e given next → length piece < 32768
    → length piece + line_room given ≤ 41088
step_fits s next e given piece lawful none step few = let fits = step_short s next e given lawful none step in omega (arith, fits, few)

-- and so does the first of some events
pub line_fits : (s next : CoreState) (events left : List (Event Draft)) (given : Answer) (piece : List ℕ) → IsLawful s → spec_fault s.device.spec ≡ None → AnswersFirst s events given next left
    → length piece < 32768 → length piece + line_room given ≤ 41088
line_fits s next events left given piece lawful none first few = step_fits s next first.0 given piece lawful none first.2 few
