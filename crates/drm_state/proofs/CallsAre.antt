-- What the calls of a device are, where the cases of their definitions are known.
use Rattle.std.proofs.Common.{◌≡◌, ℕ, ◌+◌, true, false, not, cond, List, set, Some, None, Option, sym, ap, ◌∙◌, slice_get}
use Rattle.std.specs.Prelude.{nat_lt, is_none}
use Rattle.std.specs.Option.{option_map_or}
use Rattle.drm_types.specs.Firsts.{when}
use Rattle.drm_packet.specs.declared.Packet.{Packet}
use Rattle.drm_packet.specs.Effect.{effect}
use Rattle.drm_state.specs.declared.journal.JobRecord.{JobRecord}
use Rattle.drm_state.specs.declared.answer.Answer.{Answer}
use Rattle.drm_state.specs.declared.answer.Answer.TheVariants as answer
use Rattle.drm_state.specs.declared.answer.Refusal.TheVariants.{Idle, NoCredit, NotComplete}
use Rattle.drm_state.specs.State.{DeviceState}
use Rattle.drm_state.specs.Journal.{is_at, is_complete}
use Rattle.drm_state.specs.Choice.{choice}
use Rattle.drm_state.specs.Ring.{current_of, head_of, credits_of, free_credits, is_guilty}
use Rattle.drm_state.specs.Refusals.{pick_refusal, step_refusal, finish_refusal}
use Rattle.drm_state.specs.Outcomes.{at_record, must_stall, ran_device, stepped_by, step_outcome, pick_outcome, picked_device, finish_outcome, finished_device, final_outcome}
use Rattle.drm_state.proofs.Records.{at_test, changed_is}

-- an answer with the device that it leaves
abbrev pub Left : Type 0
Left = Answer × DeviceState

-- what is done at a record that is there
pub at_record_there : (d : DeviceState) (F : ℕ → JobRecord → Left) (none : Left) (o : Option ℕ) (f : ℕ) (r : JobRecord) → o ≡ Some f → slice_get d.journal f ≡ Some r
    → at_record d F none o ≡ F f r
at_record_there d F none o f r is at = ap (λ o. at_record d F none o) is ∙ ap (λ x. option_map_or (F f) x none) at

-- a step finds its packet
pub step_finds : (d : DeviceState) (ring f : ℕ) (r : JobRecord) (p : Packet) → current_of d ring ≡ Some f → slice_get d.journal f ≡ Some r
    → slice_get r.job.packets r.ran ≡ Some p → step_outcome d ring ≡ stepped_by d f p
step_finds d ring f r p is at next =
    at_record_there d (λ number r. option_map_or (stepped_by d number) (slice_get r.job.packets r.ran) (answer.Ok, d)) (answer.Ok, d) (current_of d ring) f r is at
    ∙ ap (λ o. option_map_or (stepped_by d f) o (answer.Ok, d)) next

pub step_stalls : (d : DeviceState) (ring f : ℕ) (r : JobRecord) (p : Packet) → current_of d ring ≡ Some f → slice_get d.journal f ≡ Some r
    → slice_get r.job.packets r.ran ≡ Some p → must_stall p r.karma.resets ≡ true → step_outcome d ring ≡ (answer.Stalled f, d)
step_stalls d ring f r p is at next stall =
    step_finds d ring f r p is at next
    ∙ ap (λ b. cond {A = Left} b (answer.Stalled f, d) (answer.Ran f (option_map_or (λ r. r.ran) (slice_get d.journal f) 0), ran_device d f p))
    (at_test d.journal f r (λ r. must_stall p r.karma.resets) at ∙ stall)

-- the device after a step that ran
pub step_runs : (d : DeviceState) (ring f : ℕ) (r : JobRecord) (p : Packet) (memory : List (List ℕ)) → current_of d ring ≡ Some f → slice_get d.journal f ≡ Some r
    → slice_get r.job.packets r.ran ≡ Some p → must_stall p r.karma.resets ≡ false → memory ≡ effect p d.memory
    → step_outcome d ring ≡ (answer.Ran f r.ran, record d { memory = memory; journal = set d.journal f (record r { ran = r.ran + 1 }) })
step_runs d ring f r p memory is at next going ran =
    step_finds d ring f r p is at next
    ∙ (ap (λ b. cond {A = Left} b (answer.Stalled f, d) (answer.Ran f (option_map_or (λ r. r.ran) (slice_get d.journal f) 0), ran_device d f p))
    (at_test d.journal f r (λ r. must_stall p r.karma.resets) at ∙ going)
    ∙ (ap (λ o. let left : Left = (answer.Ran f (option_map_or (λ (r : JobRecord). r.ran) o 0), ran_device d f p) in left) at
    ∙ (ap (λ j. let left : Left = (answer.Ran f r.ran, record d { memory = effect p d.memory; journal = j }) in left)
    (changed_is d.journal f r (λ r. record r { ran = r.ran + 1 }) at)
    ∙ ap (λ m. let left : Left = (answer.Ran f r.ran, record d { memory = m; journal = set d.journal f (record r { ran = r.ran + 1 }) }) in left) (sym ran))))

-- a step is not refused where the ring runs a job
pub step_may : (d : DeviceState) (ring f : ℕ) → current_of d ring ≡ Some f → step_refusal d ring ≡ None
step_may d ring f is = ap (λ o. when (is_none o) Idle) is

-- a finish of a complete head
pub finish_may : (d : DeviceState) (ring f : ℕ) (r : JobRecord) → head_of d ring ≡ Some f → slice_get d.journal f ≡ Some r → is_complete r ≡ true → finish_refusal d ring ≡ None
finish_may d ring f r is at complete =
    ap (λ o. option_map_or (λ f. when (not (is_at d.journal f is_complete)) NotComplete) o (Some Idle)) is
    ∙ ap (λ b. when (not b) NotComplete) (at_test d.journal f r is_complete at ∙ complete)

pub finish_ends : (d : DeviceState) (ring now f : ℕ) (r : JobRecord) → head_of d ring ≡ Some f → slice_get d.journal f ≡ Some r
    → finish_outcome d ring now ≡ (answer.Finished f (final_outcome r), finished_device d ring now f (final_outcome r))
finish_ends d ring now f r is at =
    at_record_there d (λ number r. (answer.Finished number (final_outcome r), finished_device d ring now number (final_outcome r))) (answer.Ok, d) (head_of d ring) f r is at

-- a pick of a choice that fits
pub pick_may : (d : DeviceState) (ring f : ℕ) → choice d ring ≡ Some f → nat_lt (free_credits d ring) (credits_of d ring f) ≡ false → pick_refusal d ring ≡ None
pick_may d ring f is fits =
    ap (λ o. option_map_or (λ f. when (nat_lt (free_credits d ring) (credits_of d ring f)) (NoCredit (credits_of d ring f) (free_credits d ring))) o (Some Idle)) is
    ∙ ap (λ b. when b (NoCredit (credits_of d ring f) (free_credits d ring))) fits

pub pick_takes : (d : DeviceState) (ring now f : ℕ) (r : JobRecord) → choice d ring ≡ Some f → slice_get d.journal f ≡ Some r
    → pick_outcome d ring now ≡ (answer.Picked f (is_guilty d r.job.entity), picked_device d ring now f)
pick_takes d ring now f r is at =
    at_record_there d (λ number r. (answer.Picked number (is_guilty d r.job.entity), picked_device d ring now number)) (answer.Ok, d) (choice d ring) f r is at
