use contract.Lifetimes.{Lfts}
use denote.Param.{param}
use denote.Param.Send.{IsSend, IsSync, sendable}
use Rattle.drm_gpu.specs.contracts.gpu.Gpu as Gpu
use Rattle.drm_gpu.specs.contracts.pass.Pass as Pass
use Rattle.drm_gpu_tests.proofs.outside.end_meanwhile.Given.{Over}
use Rattle.drm_gpu_tests.proofs.outside.end_meanwhile.Lts.{arg-1-1}
use Rattle.drm_gpu_tests.specs.contracts.outside.end_meanwhile.{R-row}
use Rattle.drm_gpu_tests.proofs.outside.end_meanwhile.Goals as goal

crossing : (g : Over) → IsSync (R-row g.row.R) → IsSend (Pass.the_field).row → IsSync (Gpu.the_field).row → (κs : Lfts 11) → IsSend (param 1 (arg-1-1 g.row.R g.R.laws g.R.Threads-dict g.R.Wait-dict g.R.Abort-dict κs))
crossing g y p d κs = search sendable depth 20

pub join-one-requires-send-F : goal.join-one-requires-send-F
join-one-requires-send-F g c κs within = crossing g c.type_bounds.sync-R c.crosses_threads.ensures.pass c.crosses_threads.ensures.gpu κs

pub join-one-requires-send-A : goal.join-one-requires-send-A
join-one-requires-send-A g c κs within = let p = c.crosses_threads.ensures.pass in search sendable depth 20
