-- Rings: their pending jobs, their credits, and which job they run.
use Rattle.std.specs.Prelude.{ℕ, ◌-◌, Bool, false, not, min, List, [], Option, find, sum_by, slice_get, slice_set}
use Rattle.std.specs.Option.{option_map_or}
use Rattle.drm_types.specs.declared.spec.RingSpec.{RingSpec}
use Rattle.drm_state.specs.State.{EntityState, RingState, DeviceState}
use Rattle.drm_state.specs.Journal.{is_at, is_complete}
use Rattle.drm_types.specs.Firsts.{first}

-- the numbers of the ring's pending jobs, in their order
abbrev pub pending_of : DeviceState → ℕ → List ℕ
pending_of device ring = option_map_or (λ r. r.pending) (slice_get device.rings ring) []

-- a number of the ring's description
abbrev pub limit_of : (RingSpec → ℕ) → DeviceState → ℕ → ℕ
limit_of limit device ring = option_map_or limit (slice_get device.spec.rings ring) 0

abbrev pub credit_limit_of : DeviceState → ℕ → ℕ
credit_limit_of = limit_of (λ r. r.credit_limit)

-- how many credits a job counts with on the ring
abbrev pub credits_of : DeviceState → ℕ → ℕ → ℕ
credits_of device ring number =
    option_map_or (λ r. min r.job.credits (credit_limit_of device ring)) (slice_get device.journal number) 0

-- the credits of the ring's pending jobs
abbrev pub used_credits : DeviceState → ℕ → ℕ
used_credits device ring = sum_by (credits_of device ring) (pending_of device ring)

abbrev pub free_credits : DeviceState → ℕ → ℕ
free_credits device ring = credit_limit_of device ring - used_credits device ring

-- the first pending job
abbrev pub head_of : DeviceState → ℕ → Option ℕ
head_of device ring = first (pending_of device ring)

-- the first pending job that is not complete
abbrev pub current_of : DeviceState → ℕ → Option ℕ
current_of device ring = find (λ f. is_at device.journal f (λ r. not (is_complete r))) (pending_of device ring)

-- the age of the ring's head at a moment
abbrev pub age_of : DeviceState → ℕ → ℕ → ℕ
age_of device ring now = now - option_map_or (λ r. r.since) (slice_get device.rings ring) 0

abbrev pub is_stopped : DeviceState → ℕ → Bool
is_stopped device entity = option_map_or (λ e. e.is_stopped) (slice_get device.entities entity) false

abbrev pub is_guilty : DeviceState → ℕ → Bool
is_guilty device entity = option_map_or (λ e. e.is_guilty) (slice_get device.entities entity) false

-- the rings with one changed
abbrev pub ring_changed : List RingState → ℕ → (RingState → RingState) → List RingState
ring_changed rings ring change = option_map_or (λ r. slice_set rings ring (change r)) (slice_get rings ring) rings

-- the entities with one changed
abbrev pub entity_changed : List EntityState → ℕ → (EntityState → EntityState) → List EntityState
entity_changed entities entity change =
    option_map_or (λ e. slice_set entities entity (change e)) (slice_get entities entity) entities
