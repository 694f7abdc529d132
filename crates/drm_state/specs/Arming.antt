-- What an arming leaves.
use Rattle.std.specs.Prelude.{ℕ, Bool, false, not, ◌&&◌, ◌==◌, nat_lt, if◌then◌else◌, List, [], ◌∷◌, ◌++◌, filter, find, fold, map, length, Option, option_map, slice_get}
use Rattle.std.specs.Option.{option_map_or}
use Rattle.std.specs.List.{enumerate_from}
use Rattle.drm_types.specs.declared.spec.DeviceSpec.{DeviceSpec}
use Rattle.drm_types.specs.Firsts.{first}
use Rattle.drm_job.specs.declared.Draft.{Draft}
use Rattle.drm_fence.specs.declared.phase.Phase.TheVariants.{Queued}
use Rattle.drm_fence.specs.Phases.{has_ended}
use Rattle.drm_state.specs.declared.journal.JobRecord.{JobRecord}
use Rattle.drm_state.specs.State.{DeviceState}
use Rattle.drm_resv.specs.Reservation.{Reservation}
use Rattle.drm_state.specs.Reservation.{usage_at, is_signaled}
use Rattle.drm_resv.specs.Entries.{added_to}

-- the rings that are listed for an entity, and the first of them
abbrev pub rings_of : DeviceSpec → ℕ → List ℕ
rings_of spec entity = option_map_or (λ e. e.rings) (slice_get spec.entities entity) []

abbrev pub first_ring : DeviceSpec → ℕ → ℕ
first_ring spec entity = option_map_or (λ r. r) (first (rings_of spec entity)) 0

-- how many jobs are queued for a ring or pending on it
abbrev pub load : List JobRecord → ℕ → ℕ
load journal ring = length (filter (λ r. (r.ring == ring) && not (has_ended r.phase)) journal)

-- of two rings the one that is less loaded, the first where they are alike
abbrev pub less_loaded : List JobRecord → ℕ → ℕ → ℕ
less_loaded journal best ring = if nat_lt (load journal ring) (load journal best) then ring else best

-- the listed ring of an entity that is least loaded
abbrev pub least_loaded : DeviceState → ℕ → ℕ
least_loaded device entity = fold (less_loaded device.journal) (first_ring device.spec entity) (rings_of device.spec entity)

-- whether the job is of the entity and has no outcome
abbrev pub is_live : ℕ → JobRecord → Bool
is_live entity r = (r.job.entity == entity) && not (has_ended r.phase)

-- the ring of the entity's jobs that have no outcome, if there is one
abbrev pub live_ring : List JobRecord → ℕ → Option ℕ
live_ring journal entity = option_map (λ r. r.ring) (find (is_live entity) journal)

-- the ring of an entity's next job: that of its jobs that have no outcome, else the listed one that is least loaded
abbrev pub arming_ring : DeviceState → ℕ → ℕ
arming_ring device entity = option_map_or (λ ring. ring) (live_ring device.journal entity) (least_loaded device entity)

-- the record of a job that is armed now
abbrev pub new_record : DeviceState → Draft → JobRecord
new_record device job = record {
  job = job;
  ring = arming_ring device job.entity;
  phase = Queued;
  ran = 0;
  is_skipped = false;
  karma = record { resets = 0; karma = 0 };
}

-- the device with one record more
abbrev pub armed_device : DeviceState → Draft → DeviceState
armed_device device job = record device { journal = device.journal ++ new_record device job ∷ [] }

-- a buffer's reservation after the arming: changed where the job uses the buffer
abbrev pub armed_reservation : List JobRecord → Draft → ℕ → Reservation → Reservation
armed_reservation journal job buffer resv =
    option_map_or
    (λ u. added_to (is_signaled journal) resv (record { fence = length journal; entity = job.entity; usage = u }))
    (usage_at buffer job)
    resv

-- all reservations after the arming
abbrev pub armed_reservations : List JobRecord → Draft → List Reservation → List Reservation
armed_reservations journal job resvs = map (λ n. armed_reservation journal job n.0 n.1) (enumerate_from 0 resvs)
