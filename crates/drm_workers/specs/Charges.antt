-- What the handles of threads are known by.
use Rattle.std.specs.Prelude.{◌≡◌, List, [], ◌∷◌}
use Rattle.drm_gpu.specs.Passes.{GpuState}
use Rattle.drm_workers.specs.declared.work.Worker.{Worker}
use Rattle.drm_workers.specs.declared.work.Charge.{Charge}
use Rattle.drm_workers.specs.declared.work.Done.{Done}
use Rattle.drm_workers.specs.Works.{Worked, jobs_of}

-- the promise is that this worker does its work at this device
pub record IsCharge (gpu : GpuState) (worker : Worker) (charge : Charge) : Type 0 where
  pub device : charge.gpu.value ≡ gpu
  pub by : charge.worker.value ≡ worker

-- each handle is of a thread that has the worker at its place
abbrev pub AreCharges : {H : Type 0} → (H → Charge) → GpuState → List Worker → List H → Type 0
AreCharges charge gpu [] [] = Unit {0}
AreCharges charge gpu [] (h ∷ hs) = ⊥
AreCharges charge gpu (w ∷ ws) [] = ⊥
AreCharges charge gpu (w ∷ ws) (h ∷ hs) = IsCharge gpu w (charge h) × AreCharges charge gpu ws hs

-- the promise is kept
abbrev pub IsKept : Charge → Done → Type 0
IsKept c d = Worked c.gpu.value c.worker.value.pass.part (jobs_of c.worker.value.duty) d

-- the promise of each handle is kept
abbrev pub AreKept : {H : Type 0} → (H → Charge) → List H → List Done → Type 0
AreKept charge [] [] = Unit {0}
AreKept charge [] (d ∷ ds) = ⊥
AreKept charge (h ∷ hs) [] = ⊥
AreKept charge (h ∷ hs) (d ∷ ds) = IsKept (charge h) d × AreKept charge hs ds
