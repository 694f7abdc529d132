-- Threads are started and joined one by one.
use Rattle.std.proofs.Common.{List, [], ◌∷◌, subst}
use Rattle.drm_gpu.specs.Passes.{GpuState}
use Rattle.drm_workers.specs.declared.work.Worker.{Worker}
use Rattle.drm_workers.specs.declared.work.Done.{Done}
use Rattle.drm_workers.specs.declared.work.Charge.{Charge}
use Rattle.drm_workers.specs.Works.{AllWorked, Worked, jobs_of}
use Rattle.drm_workers.specs.Charges.{AreCharges, AreKept, IsCharge, IsKept}

-- what a thread gives back is what its worker should
kept : (gpu : GpuState) (w : Worker) (c : Charge) (d : Done) → IsCharge gpu w c → IsKept c d → Worked gpu w.pass.part (jobs_of w.duty) d
kept gpu w c d i k = subst (λ v. Worked gpu v.pass.part (jobs_of v.duty) d) i.by (subst (λ s. Worked s c.worker.value.pass.part (jobs_of c.worker.value.duty) d) i.device k)

pub all_worked : {H : Type 0} → (charge : H → Charge) (gpu : GpuState) (ws : List Worker) (hs : List H) (ds : List Done) → AreCharges charge gpu ws hs → AreKept charge hs ds → AllWorked gpu ws ds
all_worked charge gpu [] [] [] a k = tt
all_worked charge gpu [] [] (d ∷ ds) a k = absurd k
all_worked charge gpu [] (h ∷ hs) ds a k = absurd a
all_worked charge gpu (w ∷ ws) [] ds a k = absurd a
all_worked charge gpu (w ∷ ws) (h ∷ hs) [] a k = absurd k
all_worked charge gpu (w ∷ ws) (h ∷ hs) (d ∷ ds) a k = (kept gpu w (charge h) d a.0 k.0, all_worked charge gpu ws hs ds a.1 k.1)
