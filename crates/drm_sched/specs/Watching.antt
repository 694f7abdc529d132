-- Which fences the heads of the queues wait for.
use Rattle.std.specs.Prelude.{ℕ, ◌==◌, not, if◌then◌else◌, List, [], map, slice_get}
use Rattle.std.specs.Option.{option_map_or}
use Rattle.std.specs.List.{filter}
use Rattle.drm_types.specs.Firsts.{first}
use Rattle.drm_fence.specs.declared.pair.Pair.{Pair}
use Rattle.drm_state.specs.declared.journal.JobRecord.{JobRecord}
use Rattle.drm_state.specs.State.{DeviceState}
use Rattle.drm_state.specs.Journal.{is_at}
use Rattle.drm_state.specs.Order.{is_met}
use Rattle.drm_state.specs.Choice.{queue_of}
use Rattle.drm_state.specs.Ring.{is_stopped}

-- a dependency of an entity's head as a pair: it is met early where its job is on the head's ring
abbrev pub pair_of : List JobRecord → ℕ → ℕ → ℕ × ℕ → Pair
pair_of journal entity ring d =
    record { entity = entity; fence = d.1; of = d.0; is_early = is_at journal d.1 (λ r. r.ring == ring) }

-- the pairs of the dependencies that are not met
abbrev pub unmet_pairs : List JobRecord → ℕ → ℕ → List (ℕ × ℕ) → List Pair
unmet_pairs journal entity ring deps = map (pair_of journal entity ring) (filter (λ d. not (is_at journal d.1 (is_met ring))) deps)

-- what the head of an entity waits for: nothing, where the entity is stopped or its queue is empty
abbrev pub watched_of : DeviceState → List (List (ℕ × ℕ)) → ℕ → List Pair
watched_of device waits entity =
    if is_stopped device entity
    then []
    else option_map_or
    (λ n. unmet_pairs device.journal entity n.1.ring (option_map_or (λ deps. deps) (slice_get waits n.0) []))
    (first (queue_of entity device.journal))
    []
