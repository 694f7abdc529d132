-- Laws of jobs.
use Rattle.std.specs.Prelude.{◌≡◌, ◌↔◌, ℕ, List}
use Rattle.drm_types.specs.declared.spec.DeviceSpec.{DeviceSpec}
use Rattle.drm_buffer.specs.Memory.{sizes_of}
use Rattle.drm_job.specs.declared.Draft.{Draft}
use Rattle.drm_job.specs.Uses.{StaysWithin}
use Rattle.drm_job.specs.Fault.{IsJob}
use Rattle.drm_job.specs.Ranges.{RunsIn}
use Rattle.drm_job.specs.Sound.{IsSound}

-- a job of a device stays within what it declares
abbrev pub JobsStayWithin : Type 0
JobsStayWithin = (spec : DeviceSpec) (job : Draft) → IsJob spec job → StaysWithin job

-- a job of a device can run in each memory whose buffers have the device's sizes
abbrev pub JobsRunInTheirDevice : Type 0
JobsRunInTheirDevice =
    (spec : DeviceSpec) (job : Draft) (memory : List (List ℕ)) → IsJob spec job → sizes_of memory ≡ sizes_of spec.buffers → RunsIn memory job

-- the jobs of a device are exactly the sound drafts
abbrev pub JobsAreTheSoundDrafts : Type 0
JobsAreTheSoundDrafts = (spec : DeviceSpec) (job : Draft) → IsJob spec job ↔ IsSound spec job
