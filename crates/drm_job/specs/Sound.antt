-- What a job of a device is, fact by fact.
use Rattle.std.specs.Prelude.{◌≡◌, ◌⊎◌, false, ◌<◌, ◌≤◌, nat_eq, length, All, IsTrue}
use Rattle.std.specs.List.{IsDistinct}
use Rattle.drm_types.specs.declared.spec.DeviceSpec.{DeviceSpec}
use Rattle.drm_job.specs.declared.Draft.{Draft}
use Rattle.drm_job.specs.Uses.{is_move, StaysWithin}
use Rattle.drm_job.specs.Fault.{buffers_of, is_kernel}
use Rattle.drm_job.specs.Ranges.{RunsIn}

-- its entity and its buffers are there, its lists are short, only an entity of KERNEL priority moves, and its packets
-- stay within what it declares and within their buffers
pub record IsSound (spec : DeviceSpec) (job : Draft) : Type 0 where
  pub entity : job.entity < length spec.entities
  pub credits : 0 < job.credits
  pub few_declared : length job.declared ≤ 16
  pub few_after : length job.after ≤ 16
  pub few_packets : length job.packets ≤ 64
  pub buffers : All (λ b. b < length spec.buffers) (buffers_of job)
  pub distinct : IsDistinct nat_eq (buffers_of job)
  pub moves : IsTrue (is_kernel spec job.entity) ⊎ All (λ d. is_move d.1 ≡ false) job.declared
  pub within : StaysWithin job
  pub ranges : RunsIn spec.buffers job
