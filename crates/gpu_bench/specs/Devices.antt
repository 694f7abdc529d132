-- The devices of the rounds, and who works on them.
use Rattle.std.specs.Prelude.{◌≡◌, ◌<◌, ℕ, All, length}
use Rattle.drm_types.specs.declared.spec.DeviceSpec.{DeviceSpec}
use Rattle.drm_job.specs.declared.Draft.{Draft}
use Rattle.drm_job.specs.Fault.{IsJob}
use Rattle.drm_gpu.specs.Passes.{GpuState}
use Rattle.gpu_bench.specs.declared.workers.Worker.{Worker}
use Rattle.gpu_bench.specs.declared.parts.Batch.{Batch}

-- so many rings, and as many entities and buffers, each of 4096 bytes
pub record IsEven (count : ℕ) (spec : DeviceSpec) : Type 0 where
  pub rings : length spec.rings ≡ count
  pub buffers : length spec.buffers ≡ count
  pub entities : length spec.entities ≡ count
  pub sizes : All (λ bytes. length bytes ≡ 4096) spec.buffers

-- a job of this device
pub record IsJobOf (spec : DeviceSpec) (job : Draft) : Type 0 where
  pub is : IsJob spec job

-- a worker has a pass of this device, the number of a ring and an entity, and jobs
pub record WorksOn (gpu : GpuState) (w : Worker) : Type 0 where
  pub pass : w.pass.gpu ≡ gpu
  pub ring : w.ring < length gpu.spec.rings
  pub entity : w.ring < length gpu.spec.entities
  pub jobs : All (IsJobOf gpu.spec) w.jobs.items

-- one of eight rings, and jobs for this device
pub record IsBatch (spec : DeviceSpec) (b : Batch) : Type 0 where
  pub ring : b.ring < 8
  pub jobs : All (IsJobOf spec) b.jobs.items
