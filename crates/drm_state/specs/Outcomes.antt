-- What a device's call that is not refused answers, and the state that it leaves.
use Rattle.std.specs.Prelude.{ℕ, ◌+◌, ◌-◌, Bool, true, false, ◌&&◌, ◌||◌, ◌==◌, nat_lt, if◌then◌else◌, List, [], ◌∷◌, ◌++◌, length, map, drop, Option, Some, None, slice_get}
use Rattle.std.specs.Option.{option_map_or}
use Rattle.drm_types.specs.declared.outcome.Outcome.{Outcome}
use Rattle.drm_types.specs.declared.outcome.Outcome.TheVariants as outcome
use Rattle.drm_packet.specs.declared.Packet.{Packet}
use Rattle.drm_packet.specs.declared.Packet.TheVariants.{Fill, Copy, Add, Stall}
use Rattle.drm_packet.specs.Effect.{effect}
use Rattle.drm_reset.specs.Blame.{blamed}
use Rattle.drm_state.specs.declared.answer.Answer.{Answer}
use Rattle.drm_state.specs.declared.answer.Answer.TheVariants as answer
use Rattle.drm_fence.specs.declared.phase.Phase.TheVariants.{Scheduled, Ended}
use Rattle.drm_state.specs.declared.journal.JobRecord.{JobRecord}
use Rattle.drm_state.specs.State.{DeviceState}
use Rattle.drm_state.specs.Journal.{is_at, changed_at, is_complete}
use Rattle.drm_fence.specs.Phases.{is_scheduled}
use Rattle.drm_state.specs.Choice.{queue_of, choice}
use Rattle.drm_types.specs.Firsts.{first}
use Rattle.drm_state.specs.Ring.{limit_of, head_of, current_of, age_of, is_guilty, ring_changed, entity_changed}

-- a job goes to its ring. It is skipped at once where its entity is guilty
abbrev pub picked_device : DeviceState → ℕ → ℕ → ℕ → DeviceState
picked_device device ring now number = record device {
  journal = changed_at device.journal number (λ r. record r { phase = Scheduled; is_skipped = is_guilty device r.job.entity || r.is_skipped });
  rings = ring_changed device.rings ring (λ s. record {
    pending = s.pending ++ number ∷ [];
    since = if length s.pending == 0 then now else s.since;
  });
}

-- whether the packet waits for more resets of its job
abbrev pub must_stall : Packet → ℕ → Bool
must_stall (Stall k) resets = nat_lt resets k
must_stall (Fill buffer offset len byte) resets = false
must_stall (Copy source source_offset target target_offset len) resets = false
must_stall (Add source source_offset target target_offset len) resets = false

-- the job has run one packet more
abbrev pub ran_device : DeviceState → ℕ → Packet → DeviceState
ran_device device number packet = record device {
  memory = effect packet device.memory;
  journal = changed_at device.journal number (λ r. record r { ran = r.ran + 1 });
}

-- the next packet of the job, which is not complete
abbrev pub next_packet : List JobRecord → ℕ → Option Packet
next_packet journal number = option_map_or (λ r. slice_get r.job.packets r.ran) (slice_get journal number) None

abbrev pub stepped_by : DeviceState → ℕ → Packet → Answer × DeviceState
stepped_by device number packet =
    if is_at device.journal number (λ r. must_stall packet r.karma.resets)
    then (answer.Stalled number, device)
    else (answer.Ran number (option_map_or (λ r. r.ran) (slice_get device.journal number) 0), ran_device device number packet)

-- how a complete job ends
abbrev pub final_outcome : JobRecord → Outcome
final_outcome r = if r.is_skipped then outcome.Cancelled else outcome.Good

abbrev pub ended_at : List JobRecord → ℕ → Outcome → List JobRecord
ended_at journal number outcome = changed_at journal number (λ r. record r { phase = Ended outcome })

-- the head ends. The next pending job counts its age from now
abbrev pub finished_device : DeviceState → ℕ → ℕ → ℕ → Outcome → DeviceState
finished_device device ring now number outcome = record device {
  journal = ended_at device.journal number outcome;
  rings = ring_changed device.rings ring (λ s. record {
    pending = drop 1 s.pending;
    since = if length s.pending == 1 then s.since else now;
  });
}

-- the record of the head after a hang
abbrev pub hung : DeviceState → JobRecord → JobRecord
hung device r =
    record r { karma = option_map_or (λ e. blamed e.priority r.karma) (slice_get device.spec.entities r.job.entity) r.karma }

-- the device after a hang of the head: the job is blamed, and its age counts from now
abbrev pub hung_device : DeviceState → ℕ → ℕ → ℕ → DeviceState
hung_device device ring now number = record device {
  journal = changed_at device.journal number (hung device);
  rings = ring_changed device.rings ring (λ s. record s { since = now });
}

-- the record after its entity became guilty on the ring
abbrev pub condemned : ℕ → ℕ → JobRecord → JobRecord
condemned ring entity r =
    record r { is_skipped = (is_scheduled r.phase && (r.ring == ring) && (r.job.entity == entity)) || r.is_skipped }

-- the entity is guilty, and all its jobs on the ring are skipped
abbrev pub condemned_device : DeviceState → ℕ → ℕ → DeviceState
condemned_device device ring entity = record device {
  journal = map (condemned ring entity) device.journal;
  entities = entity_changed device.entities entity (λ e. record e { is_guilty = true });
}

-- whether the hang makes the job's entity guilty
abbrev pub is_too_much : DeviceState → ℕ → JobRecord → Bool
is_too_much device ring r = nat_lt (limit_of (λ l. l.hang_limit) device ring) (hung device r).karma.karma

abbrev pub hang_outcome : DeviceState → ℕ → ℕ → ℕ → JobRecord → Answer × DeviceState
hang_outcome device ring now number r =
    if is_too_much device ring r
    then (answer.Guilty r.job.entity, condemned_device (hung_device device ring now number) ring r.job.entity)
    else (answer.Resumed, hung_device device ring now number)

-- a timeout that finds this job as the head
abbrev pub timeout_at : DeviceState → ℕ → ℕ → ℕ → JobRecord → Answer × DeviceState
timeout_at device ring now number r =
    if nat_lt (age_of device ring now) (limit_of (λ l. l.timeout) device ring)
    then (answer.NotYet (limit_of (λ l. l.timeout) device ring - age_of device ring now), device)
    else (if is_complete r then (answer.Complete, device) else hang_outcome device ring now number r)

-- a function of a job and its record, where there is a job of this number
abbrev pub at_record : {A : Type 0} → DeviceState → (ℕ → JobRecord → A) → A → Option ℕ → A
at_record device f none None = none
at_record device f none (Some number) = option_map_or (f number) (slice_get device.journal number) none

abbrev pub pick_outcome : DeviceState → ℕ → ℕ → Answer × DeviceState
pick_outcome device ring now =
    at_record
    device
    (λ number r. (answer.Picked number (is_guilty device r.job.entity), picked_device device ring now number))
    (answer.Ok, device)
    (choice device ring)

abbrev pub step_outcome : DeviceState → ℕ → Answer × DeviceState
step_outcome device ring =
    at_record
    device
    (λ number r. option_map_or (stepped_by device number) (slice_get r.job.packets r.ran) (answer.Ok, device))
    (answer.Ok, device)
    (current_of device ring)

abbrev pub finish_outcome : DeviceState → ℕ → ℕ → Answer × DeviceState
finish_outcome device ring now =
    at_record
    device
    (λ number r. (answer.Finished number (final_outcome r), finished_device device ring now number (final_outcome r)))
    (answer.Ok, device)
    (head_of device ring)

abbrev pub timeout_outcome : DeviceState → ℕ → ℕ → Answer × DeviceState
timeout_outcome device ring now = at_record device (timeout_at device ring now) (answer.Empty, device) (head_of device ring)

abbrev pub cancelled_device : DeviceState → ℕ → DeviceState
cancelled_device device entity = record device { entities = entity_changed device.entities entity (λ e. record e { is_stopped = true }) }

abbrev pub reap_outcome : DeviceState → ℕ → Answer × DeviceState
reap_outcome device entity =
    option_map_or
    (λ n. (answer.Reaped n.0, record device { journal = ended_at device.journal n.0 outcome.Stopped }))
    (first (queue_of entity device.journal))
    (answer.Ok, device)
