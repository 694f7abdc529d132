-- How the jobs of a device go on: what may come next, and how much is left to come.
use Rattle.std.specs.Prelude.{◌≡◌, ℕ, ◌+◌, ◌-◌, ◌<◌, ◌≤◌, min, max, Bool, true, false, not, ◌&&◌, nat_lt, IsTrue, IsFalse, is_none, List, [], ◌∷◌, length, sum_by, Some, None, slice_get}
use Rattle.std.specs.Option.{option_map_or}
use Rattle.drm_types.specs.Limits.{spec_fault}
use Rattle.drm_packet.specs.declared.Packet.{Packet}
use Rattle.drm_packet.specs.declared.Packet.TheVariants.{Fill, Copy, Add, Stall}
use Rattle.drm_job.specs.declared.Draft.{Draft}
use Rattle.drm_fence.specs.declared.phase.Phase.{Phase}
use Rattle.drm_fence.specs.declared.phase.Phase.TheVariants.{Queued, Scheduled, Ended}
use Rattle.drm_fence.specs.Phases.{has_ended}
use Rattle.drm_state.specs.declared.answer.Answer.{Answer}
use Rattle.drm_state.specs.declared.answer.Answer.TheVariants as answer
use Rattle.drm_state.specs.declared.journal.JobRecord.{JobRecord}
use Rattle.drm_state.specs.State.{DeviceState}
use Rattle.drm_state.specs.Journal.{is_at, is_complete}
use Rattle.drm_state.specs.Ring.{head_of, age_of, limit_of}
use Rattle.drm_state.specs.Refusals.{pick_refusal, finish_refusal, reap_refusal}
use Rattle.drm_state.specs.Outcomes.{must_stall, pick_outcome, step_outcome, finish_outcome, timeout_outcome, reap_outcome}
use Rattle.drm_state.specs.Steady.{IsSteady}

-- what lets a job go on: a ring takes it, runs a packet of it or ends it; a timeout resets it, where it stalls; or an
-- entity that is stopped loses it
pub data Going : Type 0 where
  Pick : ℕ → Going
  Step : ℕ → Going
  Finish : ℕ → Going
  Hang : ℕ → Going
  Reap : ℕ → Going

-- whether the job is not complete, and its next packet waits for a reset that is still counted
abbrev pub waits_for_reset : JobRecord → Bool
waits_for_reset r =
    not (is_complete r) && nat_lt r.karma.resets 65535
    && option_map_or (λ packet. must_stall packet r.karma.resets) (slice_get r.job.packets r.ran) false

-- whether the head of the ring is as old at this moment as it may grow
abbrev pub is_late : DeviceState → ℕ → ℕ → Bool
is_late device ring now = not (nat_lt (age_of device ring now) (limit_of (λ l. l.timeout) device ring))

abbrev pub runs_packet : Answer → Bool
runs_packet (answer.Ran fence packet) = true
runs_packet _ = false

-- whether it may come at this moment
abbrev pub may_come : DeviceState → ℕ → Going → Bool
may_come device now (Pick ring) = nat_lt ring (length device.spec.rings) && is_none (pick_refusal device ring)
may_come device now (Step ring) = nat_lt ring (length device.spec.rings) && runs_packet (step_outcome device ring).0
may_come device now (Finish ring) = nat_lt ring (length device.spec.rings) && is_none (finish_refusal device ring)
may_come device now (Hang ring) =
    nat_lt ring (length device.spec.rings) && is_late device ring now
    && option_map_or (λ head. is_at device.journal head waits_for_reset) (head_of device ring) false
may_come device now (Reap entity) = nat_lt entity (length device.spec.entities) && is_none (reap_refusal device entity)

-- the device after it
abbrev pub after : DeviceState → ℕ → Going → DeviceState
after device now (Pick ring) = (pick_outcome device ring now).1
after device now (Step ring) = (step_outcome device ring).1
after device now (Finish ring) = (finish_outcome device ring now).1
after device now (Hang ring) = (timeout_outcome device ring now).1
after device now (Reap entity) = (reap_outcome device entity).1

-- no packet of an armed job asks for more resets than are counted: its type holds no more
abbrev pub AskFewResets : List JobRecord → Type 0
AskFewResets journal =
    (i place resets : ℕ) (r : JobRecord) → slice_get journal i ≡ Some r → slice_get r.job.packets place ≡ Some (Stall resets) → resets ≤ 65535

-- the moment finds the head of each ring late
abbrev pub FindsAllLate : DeviceState → ℕ → Type 0
FindsAllLate device now = (ring : ℕ) → IsTrue (is_late device ring now)

-- while a job has no outcome, something may come that lets a job go on
abbrev pub NoDeviceIsStuck : Type 0
NoDeviceIsStuck =
    (device : DeviceState) (now : ℕ) → IsSteady device → spec_fault device.spec ≡ None → AskFewResets device.journal → FindsAllLate device now
    → (i : ℕ) (r : JobRecord) → slice_get device.journal i ≡ Some r → IsFalse (has_ended r.phase) → (going : Going) × IsTrue (may_come device now going)

-- how often a job of this phase is still given to a ring or gets its outcome
abbrev pub phases_left : Phase → ℕ
phases_left Queued = 2
phases_left Scheduled = 1
phases_left (Ended outcome) = 0

-- the resets that the packet waits for, as far as they are counted
abbrev pub resets_of : Packet → ℕ
resets_of (Fill buffer offset len byte) = 0
resets_of (Copy source source_offset target target_offset len) = 0
resets_of (Add source source_offset target target_offset len) = 0
resets_of (Stall resets) = min resets 65535

-- the most that one of the packets waits for
abbrev pub resets_asked : List Packet → ℕ
resets_asked [] = 0
resets_asked (packet ∷ packets) = max (resets_of packet) (resets_asked packets)

-- how much may come for a job: a pick, each of its packets, each reset that it asks for, and its end
abbrev pub work_of : Draft → ℕ
work_of job = 2 + length job.packets + resets_asked job.packets

-- how much of it is left
abbrev pub work_left : JobRecord → ℕ
work_left r = phases_left r.phase + (length r.job.packets - r.ran) + (resets_asked r.job.packets - r.karma.resets)

-- so for all armed jobs
abbrev pub all_work : List JobRecord → ℕ
all_work journal = sum_by (λ r. work_of r.job) journal

abbrev pub all_left : List JobRecord → ℕ
all_left journal = sum_by work_left journal

-- whatever comes and lets a job go on, less is left
abbrev pub WorkFalls : Type 0
WorkFalls =
    (device : DeviceState) (now : ℕ) (going : Going) → IsSteady device → IsTrue (may_come device now going)
    → all_left (after device now going).journal < all_left device.journal
