-- What the tracks and counters of a trace show of the state of a core.
use Rattle.std.specs.Prelude.{ℕ, ◌-◌, min, List, length, Option, Some, option_and_then, option_map, slice_get}
use Rattle.std.specs.Option.{option_map_or}
use Rattle.drm_types.specs.declared.spec.DeviceSpec.{DeviceSpec}
use Rattle.drm_types.specs.Firsts.{first}
use Rattle.drm_state.specs.declared.journal.JobRecord.{JobRecord}
use Rattle.drm_state.specs.Arming.{load}
use Rattle.drm_state.specs.Choice.{queue_of}
use Rattle.drm_state.specs.Ring.{credit_limit_of, free_credits, head_of, pending_of}
use Rattle.drm_reason.specs.Awaited.{awaited_by}
use Rattle.drm_reason.specs.Reasons.{reason_of}
use Rattle.drm_core.specs.State.{CoreState}
use Rattle.drm_core.specs.Context.{holder_of}
use Rattle.drm_perfetto.specs.declared.lanes.Lane.{Lane}
use Rattle.drm_perfetto.specs.declared.lanes.Lane.TheVariants as lane
use Rattle.drm_perfetto.specs.declared.lanes.Row.{Row}

-- the entity of a job, and the ring that it is armed for: 0 where there is no job of this number
abbrev pub owner_of : List JobRecord → ℕ → ℕ
owner_of journal fence = option_map_or (λ r. r.job.entity) (slice_get journal fence) 0

abbrev pub ring_of : List JobRecord → ℕ → ℕ
ring_of journal fence = option_map_or (λ r. r.ring) (slice_get journal fence) 0

-- a count
abbrev pub counted : ℕ → Option Row
counted count = Some (record { what = count; of = 0 })

-- the job at the head of a ring
abbrev pub shown_on_ring : CoreState → ℕ → Option Row
shown_on_ring core ring =
    option_map (λ fence. record { what = fence; of = owner_of core.device.journal fence }) (head_of core.device ring)

-- the first job in the queue of an entity
abbrev pub shown_in_queue : CoreState → ℕ → Option Row
shown_in_queue core entity =
    option_map
    (λ fence. record { what = fence; of = ring_of core.device.journal fence })
    (option_map (λ n. n.0) (first (queue_of entity core.device.journal)))

-- the row of a job that waits for a fence
abbrev pub wait_row : ℕ → Option ℕ → Option Row
wait_row fence awaited = option_map (λ earlier. record { what = fence; of = earlier }) awaited

-- the first job in the queue of an entity, if it waits for a fence: of those that are not met the least
abbrev pub shown_wait : CoreState → ℕ → Option Row
shown_wait core entity =
    option_and_then
    (λ fence. wait_row fence (awaited_by (reason_of core.device fence)))
    (option_map (λ n. n.0) (first (queue_of entity core.device.journal)))

-- the context that holds a buffer
abbrev pub shown_on_buffer : CoreState → ℕ → Option Row
shown_on_buffer core buffer = option_map (λ ctx. record { what = ctx; of = 0 }) (holder_of core buffer)

-- the credits of a ring that are in use: all but those that are free
abbrev pub shown_credits : CoreState → ℕ → Option Row
shown_credits core ring = counted (credit_limit_of core.device ring - free_credits core.device ring)

-- the jobs that are queued for a ring: those that have no outcome and are not pending
abbrev pub shown_queued : CoreState → ℕ → Option Row
shown_queued core ring = counted (load core.device.journal ring - length (pending_of core.device ring))

-- what a lane shows
abbrev pub shown : CoreState → Lane → ℕ → Option Row
shown core lane.Wait entity = shown_wait core entity
shown core lane.Queue entity = shown_in_queue core entity
shown core lane.Ring ring = shown_on_ring core ring
shown core lane.Buffer buffer = shown_on_buffer core buffer
shown core lane.Credits ring = shown_credits core ring
shown core lane.Queued ring = shown_queued core ring

-- how many a device has of a lane: no device has more than 64
abbrev pub count_of : DeviceSpec → Lane → ℕ
count_of spec lane.Wait = min (length spec.entities) 64
count_of spec lane.Queue = min (length spec.entities) 64
count_of spec lane.Ring = min (length spec.rings) 64
count_of spec lane.Buffer = min (length spec.buffers) 64
count_of spec lane.Credits = min (length spec.rings) 64
count_of spec lane.Queued = min (length spec.rings) 64
