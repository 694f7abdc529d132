-- What a worker may begin with, and what it gives back.
use Rattle.std.specs.Prelude.{◌≡◌, ℕ, ◌<◌, ◌≤◌, ◌++◌, All, true, length, map, vec_len, vec_capacity, List, [], ◌∷◌}
use Rattle.drm_types.specs.declared.spec.DeviceSpec.{DeviceSpec}
use Rattle.drm_job.specs.declared.Draft.{Draft}
use Rattle.drm_job.specs.Fault.{IsJob}
use Rattle.ww_lock.specs.Parts.{IsWhole}
use Rattle.drm_gpu.specs.Passes.{GpuState}
use Rattle.drm_workers.specs.declared.work.Duty.{Duty}
use Rattle.drm_workers.specs.declared.work.Duty.TheVariants as duty
use Rattle.drm_workers.specs.declared.work.Worker.{Worker}
use Rattle.drm_workers.specs.declared.work.Done.{Done}
use Rattle.drm_workers.specs.Numbers.{armings}
use Rattle.drm_workers.specs.Jobs.{AreJobsOf}

-- the jobs of a worker
abbrev pub jobs_of : Duty → List Draft
jobs_of (duty.Submit jobs armed) = jobs.items
jobs_of (duty.Schedule ring) = []
jobs_of (duty.Run ring) = []
jobs_of duty.Watch = []

-- its ring is there; or its jobs are of the device, and its list of numbers is empty and has room for them
abbrev pub CanDo : DeviceSpec → Duty → Type 0
CanDo spec (duty.Submit jobs armed) = All (IsJob spec) jobs.items × (armed.items ≡ []) × (vec_len jobs ≤ vec_capacity armed)
CanDo spec (duty.Schedule ring) = ring < length spec.rings
CanDo spec (duty.Run ring) = ring < length spec.rings
CanDo spec duty.Watch = Unit {0}

-- a worker of this device may begin
pub record MayWork (gpu : GpuState) (worker : Worker) : Type 0 where
  pub pass : worker.pass.gpu ≡ gpu
  pub fresh : armings worker.pass.calls ≡ []
  pub can : CanDo gpu.spec worker.duty

-- a worker with this part of the device and these jobs is over: it has the part still, has armed the numbers that it
-- tells, and where it is done, they are those of its jobs in order
pub record Worked (gpu : GpuState) (own : List ℕ) (jobs : List Draft) (done : Done) : Type 0 where
  pub pass : done.pass.gpu ≡ gpu
  pub part : done.pass.part ≡ own
  pub armings : armings done.pass.calls ≡ done.armed.items
  pub order : done.is_done ≡ true → AreJobsOf done.pass.last.state.journal done.armed.items jobs

-- a worker tells the numbers that it has armed at this device
abbrev pub Tells : GpuState → Done → Type 0
Tells gpu done = (done.pass.gpu ≡ gpu) × (armings done.pass.calls ≡ done.armed.items)

-- each worker is over as it should be
abbrev pub AllWorked : GpuState → List Worker → List Done → Type 0
AllWorked gpu [] [] = Unit {0}
AllWorked gpu [] (done ∷ dones) = ⊥
AllWorked gpu (worker ∷ workers) [] = ⊥
AllWorked gpu (worker ∷ workers) (done ∷ dones) = Worked gpu worker.pass.part (jobs_of worker.duty) done × AllWorked gpu workers dones

-- workers with these lists of jobs were hired behind those that there were. Each may begin where those may
abbrev pub Hires : GpuState → List (List Draft) → List Worker → List Worker → Type 0
Hires gpu lists old new =
    (map (λ w. jobs_of w.duty) new ≡ map (λ w. jobs_of w.duty) old ++ lists) × (All (MayWork gpu) old → All (MayWork gpu) new)

-- the parts of the device that workers have
abbrev pub parts_of : List Worker → List ℕ
parts_of [] = []
parts_of (worker ∷ workers) = worker.pass.part ++ parts_of workers

-- a pass and these workers have the whole device
abbrev pub HaveAll : List ℕ → List Worker → Type 0
HaveAll part workers = IsWhole (part ++ parts_of workers)
