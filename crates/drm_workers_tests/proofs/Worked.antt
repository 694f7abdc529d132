-- What workers give back, of one device.
use Rattle.std.proofs.Common.{◌≡◌, List, [], ◌∷◌, All}
use Rattle.std.proofs.lemmas.List.Elements.{All-cons, All-nil}
use Rattle.drm_gpu.specs.Passes.{GpuState}
use Rattle.drm_workers.specs.declared.work.Done.{Done}
use Rattle.drm_workers.specs.declared.work.Worker.{Worker}
use Rattle.drm_workers.specs.Works.{AllWorked}

pub all_of : (gpu : GpuState) (ws : List Worker) (ds : List Done) → AllWorked gpu ws ds → All (λ (d : Done). d.pass.gpu ≡ gpu) ds
all_of gpu [] [] k = All-nil (λ (d : Done). d.pass.gpu ≡ gpu)
all_of gpu [] (d ∷ ds) k = absurd k
all_of gpu (w ∷ ws) [] k = absurd k
all_of gpu (w ∷ ws) (d ∷ ds) k = All-cons (λ (d : Done). d.pass.gpu ≡ gpu) d ds k.0.pass (all_of gpu ws ds k.1)
