-- How loaded the rings are, and the last job of each entity, as tables keep them.
use Rattle.std.specs.Prelude.{◌≡◌, ℕ, ◌<◌, Bool, not, ◌&&◌, ◌==◌, List, length, map, filter, Option, Some, None, slice_get}
use Rattle.drm_types.specs.declared.spec.DeviceSpec.{DeviceSpec}
use Rattle.drm_fence.specs.Phases.{has_ended}
use Rattle.drm_state.specs.declared.journal.JobRecord.{JobRecord}
use Rattle.drm_state.specs.declared.loads.Loads.{Loads}

-- where a job stands, and whether it has an outcome
pub record Standing : Type 0 where
  pub ring : ℕ
  pub ended : Bool

abbrev pub standing_of : JobRecord → Standing
standing_of r = record { ring = r.ring; ended = has_ended r.phase }

-- whether the job has no outcome and stands on the ring
abbrev pub is_live_on : ℕ → Standing → Bool
is_live_on ring s = (s.ring == ring) && not s.ended

-- the entity of a job
abbrev pub owner_of : JobRecord → ℕ
owner_of r = r.job.entity

-- the place at which the entity stands last in the list, if it stands there
abbrev pub IsLastOf : List ℕ → ℕ → Option ℕ → Type 0
IsLastOf owners entity None = (i : ℕ) → slice_get owners i ≡ Some entity → ⊥
IsLastOf owners entity (Some last) =
    (slice_get owners last ≡ Some entity) × ((i : ℕ) → last < i → slice_get owners i ≡ Some entity → ⊥)

-- the loads are those of jobs that stand so and belong to these entities
pub record LoadsStand (spec : DeviceSpec) (jobs : List Standing) (owners : List ℕ) (loads : Loads) : Type 0 where
  pub rings : length loads.live.items ≡ length spec.rings
  pub entities : length loads.last.items ≡ length spec.entities
  pub live : (ring n : ℕ) → slice_get loads.live.items ring ≡ Some n → n ≡ length (filter (is_live_on ring) jobs)
  pub last : (entity : ℕ) (o : Option ℕ) → slice_get loads.last.items entity ≡ Some o → IsLastOf owners entity o
  pub ended : loads.ended ≡ length (filter (λ s. s.ended) jobs)

-- and so of the jobs of a journal
abbrev pub LoadsOf : DeviceSpec → List JobRecord → Loads → Type 0
LoadsOf spec journal loads = LoadsStand spec (map standing_of journal) (map owner_of journal) loads
