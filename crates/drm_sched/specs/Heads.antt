-- What a device keeps of the heads of its queues, by which a pick finds its job.
use Rattle.std.specs.Prelude.{◌≡◌, ℕ, Bool, ◌==◌, ◌&&◌, if◌then◌else◌, List, [], Option, Some, None, length, option_map, slice_get, slice_set}
use Rattle.std.specs.Option.{option_map_or}
use Rattle.std.specs.List.{count_by}
use Rattle.drm_types.specs.declared.spec.DeviceSpec.{DeviceSpec}
use Rattle.drm_types.specs.Firsts.{first}
use Rattle.drm_fence.specs.declared.pair.Pair.{Pair}
use Rattle.drm_runq.specs.declared.key.Key.{Key}
use Rattle.drm_sched.specs.declared.heads.Heads.{Heads}
use Rattle.drm_state.specs.State.{DeviceState}
use Rattle.drm_state.specs.Choice.{queue_of}
use Rattle.drm_state.specs.Ring.{is_stopped}
use Rattle.drm_sched.specs.Watching.{watched_of}

-- the keys of a ring, and the run queues with one key changed
abbrev pub keys_at : List (List (Option Key)) → ℕ → List (Option Key)
keys_at queues ring = option_map_or (λ keys. keys) (slice_get queues ring) []

abbrev pub with_key : List (List (Option Key)) → ℕ → ℕ → Option Key → List (List (Option Key))
with_key queues ring entity key = slice_set queues ring (slice_set (keys_at queues ring) entity key)

-- by what the entity's head with this number is ordered
abbrev pub key_of : DeviceSpec → ℕ → ℕ → Option Key
key_of spec entity number = option_map (λ e. record { priority = e.priority; age = number }) (slice_get spec.entities entity)

-- the key of an entity in the run queue of a ring: it has one where it is not stopped and its head is of the ring
abbrev pub head_key : DeviceState → ℕ → ℕ → Option Key
head_key device ring entity =
    if is_stopped device entity
    then None
    else option_map_or
    (λ n. if n.1.ring == ring then key_of device.spec entity n.0 else None)
    (first (queue_of entity device.journal))
    None

-- the entity has these pairs, in any order
abbrev pub AreWatched : List Pair → ℕ → List Pair → Type 0
AreWatched pairs entity watched =
    (test : Pair → Bool) → count_by (λ p. (p.entity == entity) && test p) pairs ≡ count_by test watched

-- the run queues have these keys, and the waiters these pairs
pub record HeadsAre (spec : DeviceSpec) (key : ℕ → ℕ → Option Key) (watched : ℕ → List Pair) (h : Heads) : Type 0 where
  pub rings : length h.queues.items ≡ length spec.rings
  pub entities : (ring : ℕ) (keys : List (Option Key)) → slice_get h.queues.items ring ≡ Some keys → length keys ≡ length spec.entities
  pub keys : (ring entity : ℕ) (keys : List (Option Key)) (k : Option Key) → slice_get h.queues.items ring ≡ Some keys
      → slice_get keys entity ≡ Some k → k ≡ key ring entity
  pub watches : (entity : ℕ) → AreWatched h.waiters.pairs entity (watched entity)
  pub waiting : h.waiters.entities ≡ length spec.entities
  pub fences : h.waiters.fences ≡ spec.max_jobs

-- they are those of the device's heads
abbrev pub HeadsStand : DeviceState → List (List (ℕ × ℕ)) → Heads → Type 0
HeadsStand device waits h = HeadsAre device.spec (head_key device) (watched_of device waits) h

-- the same, but nothing is kept of this entity
abbrev pub HeadsStandBut : DeviceState → List (List (ℕ × ℕ)) → ℕ → Heads → Type 0
HeadsStandBut device waits entity h =
    HeadsAre
    device.spec
    (λ ring e. if e == entity then None else head_key device ring e)
    (λ e. if e == entity then [] else watched_of device waits e)
    h
