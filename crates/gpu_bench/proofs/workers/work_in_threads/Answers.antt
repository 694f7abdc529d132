use Rattle.std.proofs.Common.{sym, subst, ◌<◌, ◌≡◌, ◌∙◌, Ok, Err}
use Rattle.std.specs.Prelude.{IfOk, Result}
use denote.Param.Send.{IsSend, IsSync, sendable}
use contract.Lifetimes.{Lfts}
use denote.Param.{param}
use Rattle.std.proofs.alloc.Global.TheSendSync as handle
use Rattle.std.proofs.Crossing.{crosses}
use Rattle.drm_gpu.specs.contracts.gpu.Gpu as Gpu
use Rattle.drm_gpu.specs.contracts.pass.Pass as Pass
use Rattle.drm_job.specs.contracts.job.Job as Job
use Rattle.drm_job.proofs.job.Job.TheSendSync as sent
use Rattle.gpu_bench.specs.Devices.{WorksOn}
use Rattle.gpu_bench.specs.contracts.workers.Stage as Stage
use Rattle.gpu_bench.specs.contracts.workers.Worker as Worker
use Rattle.gpu_bench.specs.contracts.workers.work_in_threads.{R-row}
use Rattle.gpu_bench.proofs.workers.work_in_threads.Given.{Over}
use Rattle.gpu_bench.proofs.workers.work_in_threads.Lts.{arg-1-4}
use Rattle.gpu_bench.proofs.workers.work_in_threads.Goals as goal

job_send : IsSend Job.the_row
job_send = sent.the_send

worker_send : IsSend (Pass.the_field).row → IsSend Worker.the_row
worker_send p = let j = job_send in search (crosses, sendable) depth 20

pub map_vec-requires-send-J : goal.map_vec-requires-send-J
map_vec-requires-send-J g c κs within = let h = worker_send c.crosses_threads.ensures.pass in search sendable depth 20

pub map_vec-requires-send-X : goal.map_vec-requires-send-X
map_vec-requires-send-X g c κs within = let h = worker_send c.crosses_threads.ensures.pass in search sendable depth 20

stage_sync : IsSync Stage.the_row
stage_sync = search sendable depth 20

crossing : (g : Over) → IsSync (R-row g.row.R) → IsSync (Gpu.the_field).row → (κs : Lfts 9) → IsSync (param 4 (arg-1-4 g.row.R g.R.laws g.R.Threads-dict g.R.Wait-dict κs))
crossing g y d κs = let h = handle.the_field_sync in let k = stage_sync in search sendable depth 20

pub map_vec-requires-sync-F : goal.map_vec-requires-sync-F
map_vec-requires-sync-F g c κs within = crossing g c.type_bounds.sync-R c.crosses_threads.ensures.gpu κs

pub map_vec-requires-after_bounds : goal.map_vec-requires-after_bounds
map_vec-requires-after_bounds g c κs within i x l e = subst (WorksOn c.args.gpu.now) (sym e) (c.requires i x l)

told : {X E : Type 0} (r : Result X E) (P Q S : X → Type 0) → ((x : X) → P x → Q x → S x) → IfOk r P → IfOk r Q → IfOk r S
told (Ok x) P Q S f p q = f x p q
told (Err e) P Q S f p q = tt

pub returns : goal.returns
returns g c = told c.map_vec.result _ _ _ (λ v len each i d l. (each i d (subst (λ n. i < n) (sym v.ok.0 ∙ (len ∙ c.args.workers.ok.0)) l)).1.call.met) c.map_vec.ensures.len c.map_vec.ensures.each
