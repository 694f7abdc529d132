-- Looks at a core: the status of a fence.
use Rattle.std.proofs.Common.{◌≡◌, ℕ, ◌<◌, Bool, true, false, length, List, Some, None, Option, refl, sym, ap, ◌∙◌, arith, w32, slice_get}
use mir.Val.{to_z, of_z}
use Rattle.std.specs.Prelude.{ℤ, pos, nat_le, option_map}
use Rattle.std.specs.Option.{option_map_or}
use Rattle.std.proofs.lemmas.Bool.{leb-false, lt-leb}
use Rattle.std.proofs.lemmas.Option.{slice_get_within}
use Rattle.drm_types.specs.Firsts.{when}
use Rattle.drm_types.specs.declared.outcome.Outcome.TheVariants.{Good, Cancelled, Stopped}
use Rattle.drm_fence.specs.declared.phase.Phase.{Phase}
use Rattle.drm_fence.specs.declared.phase.Phase.TheVariants.{Queued, Scheduled, Ended}
use Rattle.drm_fence.specs.Phases.{status_of}
use Rattle.drm_core.specs.declared.cores.CoreTable.{CoreTable}
use Rattle.drm_state.specs.declared.answer.Answer.TheVariants as answer
use Rattle.drm_core.specs.declared.event.Event.TheVariants as event
use Rattle.drm_state.specs.declared.answer.Refusal.TheVariants as refusal
use Rattle.drm_state.specs.declared.journal.JobRecord.{JobRecord}
use Rattle.drm_core.specs.Step.{reply}
use Rattle.drm_core.specs.Cores.{core_state}
use Rattle.drm_lists.proofs.Places.{stands_within}
use Rattle.drm_core.proofs.Locks.{reply_is}
use Rattle.drm_core.proofs.Submitting.{reply_early}

-- a status is kept in 32 bits
pub status_fits : (p : Phase) → to_z w32 (of_z w32 (status_of p)) ≡ status_of p
status_fits Queued = refl
status_fits Scheduled = refl
status_fits (Ended Good) = refl
status_fits (Ended Cancelled) = refl
status_fits (Ended Stopped) = refl

-- a look at a fence that is there
pub status_done : (c : CoreTable) (fence : ℕ) (z : ℤ) → option_map (λ (r : JobRecord). status_of r.phase) (slice_get c.device.state.journal fence) ≡ Some z
    → reply (core_state c) (event.Status fence) ≡ (answer.Status (to_z w32 (of_z w32 z)), core_state c)
status_done c fence z is = by_record (slice_get c.device.state.journal fence) refl
  where
    by_record : (o : Option JobRecord) → slice_get c.device.state.journal fence ≡ o → reply (core_state c) (event.Status fence) ≡ (answer.Status (to_z w32 (of_z w32 z)), core_state c)
    by_record None none =
        absurd (let never : None ≡ Some z = sym (ap (option_map (λ (r : JobRecord). status_of r.phase)) none) ∙ is in cc (never))
    by_record (Some r) at =
        let told : Some (status_of r.phase) ≡ Some z = sym (ap (option_map (λ (r : JobRecord). status_of r.phase)) at) ∙ is in
        let same : status_of r.phase ≡ z = cc (told) in
        reply_is (core_state c) (event.Status fence)
        (ap (λ b. when b (refusal.NoFence fence)) (lt-leb (length c.device.state.journal) fence (slice_get_within c.device.state.journal fence r at))) refl
        ∙ ap (λ z. (answer.Status z, core_state c)) (ap (λ o. option_map_or (λ (r : JobRecord). status_of r.phase) o (pos 0)) at ∙ (sym (status_fits r.phase) ∙ ap (λ z. to_z w32 (of_z w32 z)) same))

-- a look at a fence that is not there
pub status_none : (c : CoreTable) (fence : ℕ) → slice_get c.device.state.journal fence ≡ None
    → reply (core_state c) (event.Status fence) ≡ (answer.Refused (refusal.NoFence fence), core_state c)
status_none c fence none = reply_early (core_state c) (event.Status fence) (refusal.NoFence fence) (ap (λ b. when b (refusal.NoFence fence)) (by_order (nat_le (length js) fence) refl))
  where
    js : List JobRecord
    js = c.device.state.journal

    by_order : (b : Bool) → nat_le (length js) fence ≡ b → nat_le (length js) fence ≡ true
    by_order true is = is
    by_order false is =
        let lt = leb-false (length js) fence is in
        let within : fence < length js = omega (arith, lt) in
        let r = stands_within js fence within in
        absurd (let never : None ≡ Some r.0 = sym none ∙ r.1 in cc (never))
