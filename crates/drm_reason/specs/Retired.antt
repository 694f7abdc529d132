-- Jobs that have all ended, from the first one on, and the first job that is queued for a ring.
use Rattle.std.specs.Prelude.{◌≡◌, ℕ, ◌<◌, ◌&&◌, ◌==◌, IsTrue, List, Option, Some, find, length, option_map, slice_get}
use Rattle.drm_fence.specs.Phases.{has_ended, is_queued}
use Rattle.drm_state.specs.declared.journal.JobRecord.{JobRecord}
use Rattle.drm_state.specs.State.{DeviceState}
use Rattle.drm_state.specs.Grows.{Grows}
use Rattle.drm_state.specs.Journal.{numbered}
use Rattle.drm_reason.specs.declared.retired.Retired.{Retired}

-- all jobs below the number are armed and have ended
pub record AreRetired (device : DeviceState) (retired : Retired) : Type 0 where
  pub armed : (i : ℕ) → i < retired.below → i < length device.journal
  pub ended : (i : ℕ) (job : JobRecord) → i < retired.below → slice_get device.journal i ≡ Some job → IsTrue (has_ended job.phase)

-- jobs that have ended stay so, however a device grows
abbrev pub RetiredStay : Type 0
RetiredStay = (old new : DeviceState) (retired : Retired) → Grows old new → AreRetired old retired → AreRetired new retired

-- the first job that is queued for the ring
abbrev pub first_queued_for : List JobRecord → ℕ → Option ℕ
first_queued_for journal ring = option_map (λ n. n.0) (find (λ n. (n.1.ring == ring) && is_queued n.1.phase) (numbered journal))
