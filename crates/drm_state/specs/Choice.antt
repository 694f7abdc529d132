-- Queues, and which job a ring takes next.
use Rattle.std.specs.Prelude.{ℕ, Bool, false, not, ◌&&◌, ◌==◌, List, map, Option, slice_get}
use Rattle.std.specs.Option.{option_map_or}
use Rattle.std.specs.List.{filter, flat_map}
use Rattle.drm_types.specs.declared.spec.Priority.{Priority}
use Rattle.drm_types.specs.Firsts.{first}
use Rattle.drm_types.specs.Priorities.{priorities, rank_of}
use Rattle.drm_state.specs.declared.journal.JobRecord.{JobRecord}
use Rattle.drm_state.specs.State.{DeviceState}
use Rattle.drm_state.specs.Journal.{numbered}
use Rattle.drm_fence.specs.Phases.{is_queued}
use Rattle.drm_state.specs.Order.{is_ready}

-- the queued records of the entity with their numbers, in arming order
abbrev pub queue_of : ℕ → List JobRecord → List (ℕ × JobRecord)
queue_of entity journal = filter (λ n. (n.1.job.entity == entity) && is_queued n.1.phase) (numbered journal)

-- whether the number is that of the first in the entity's queue
abbrev pub is_head_of : ℕ → List JobRecord → ℕ → Bool
is_head_of entity journal number = option_map_or (λ n. n.0 == number) (first (queue_of entity journal)) false

-- whether the entity has this priority and is not stopped
abbrev pub may_begin : DeviceState → Priority → ℕ → Bool
may_begin device priority entity =
    option_map_or (λ e. rank_of e.priority == rank_of priority) (slice_get device.spec.entities entity) false
    && option_map_or (λ e. not e.is_stopped) (slice_get device.entities entity) false

-- the jobs of the priority that the ring could take, in arming order: ready heads of queues of entities that are not
-- stopped
abbrev pub ready_heads : DeviceState → ℕ → Priority → List ℕ
ready_heads device ring priority =
    map
    (λ n. n.0)
    (filter
    (λ n. (n.1.ring == ring) && may_begin device priority n.1.job.entity && is_head_of n.1.job.entity device.journal n.0
    && is_ready device.journal n.0 n.1)
    (numbered device.journal))

-- the job that the ring takes next: of the highest priority that has one, the first
abbrev pub choice : DeviceState → ℕ → Option ℕ
choice device ring = first (flat_map (ready_heads device ring) priorities)
