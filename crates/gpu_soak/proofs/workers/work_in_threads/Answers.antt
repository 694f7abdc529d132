use Rattle.std.proofs.Common.{sym, subst, ◌<◌, ◌≡◌, ◌∙◌, Ok, Err}
use Rattle.std.specs.Prelude.{IfOk, Result}
use denote.Builtin.{u64}
use denote.Struct.Declared.{shape}
use denote.Param.Send.{IsSend, IsSync, struct_send, recorded_send, sendable}
use contract.Lifetimes.{Lfts}
use denote.Param.{param}
use Rattle.std.proofs.Crossing.{crosses}
use Rattle.std.proofs.alloc.Global.TheSendSync as handle
use Rattle.drm_gpu.specs.contracts.gpu.Gpu as Gpu
use Rattle.drm_gpu.specs.contracts.pass.Pass as Pass
use Rattle.gpu_soak.specs.contracts.chance.Chance as Chance
use Rattle.gpu_soak.specs.contracts.reading.Seen as Seen
use Rattle.gpu_soak.specs.contracts.tally.Tally as Tally
use Rattle.gpu_soak.specs.contracts.workers.Worker as Worker
use Rattle.gpu_soak.specs.contracts.workers.work_in_threads.{R-row}
use Rattle.gpu_soak.proofs.workers.work_in_threads.Given.{Over}
use Rattle.gpu_soak.proofs.workers.work_in_threads.Lts.{arg-1-4}
use Rattle.gpu_soak.proofs.workers.work_in_threads.Goals as goal

chance_send : IsSend Chance.the_row
chance_send = search sendable depth 20

word_send : IsSend u64
word_send = search sendable depth 20

tally_send : IsSend Tally.the_row
tally_send = let w = word_send in recorded_send _ _ _ (Tally.the_type).to_one (struct_send (shape Tally.the_type) (w, (w, (w, (w, (w, (w, (w, (w, (w, (w, tt)))))))))))

seen_send : IsSend Seen.the_row
seen_send = search sendable depth 20

worker_send : IsSend (Pass.the_field).row → IsSend Worker.the_row
worker_send p = let c = chance_send in let t = tally_send in let s = seen_send in search (crosses, sendable) depth 20

pub map_vec-requires-send-J : goal.map_vec-requires-send-J
map_vec-requires-send-J g c κs within = let w = worker_send c.crosses_threads.ensures.pass in search sendable depth 20

pub map_vec-requires-send-X : goal.map_vec-requires-send-X
map_vec-requires-send-X g c κs within = let w = worker_send c.crosses_threads.ensures.pass in search sendable depth 20

crossing : (g : Over) → IsSync (R-row g.row.R) → IsSync (Gpu.the_field).row → (κs : Lfts 9) → IsSync (param 4 (arg-1-4 g.row.R g.R.laws g.R.Threads-dict g.R.Wait-dict κs))
crossing g y d κs = let h = handle.the_field_sync in search sendable depth 20

pub map_vec-requires-sync-F : goal.map_vec-requires-sync-F
map_vec-requires-sync-F g c κs within = crossing g c.type_bounds.sync-R c.crosses_threads.ensures.gpu κs

pub map_vec-requires-after_bounds : goal.map_vec-requires-after_bounds
map_vec-requires-after_bounds g c κs within i x l e = (c.requires.0, subst (λ w. w.pass.gpu ≡ c.args.gpu.now) (sym e) (c.requires.1 i x l))

told : {X E : Type 0} (r : Result X E) (P Q S : X → Type 0) → ((x : X) → P x → Q x → S x) → IfOk r P → IfOk r Q → IfOk r S
told (Ok x) P Q S f p q = f x p q
told (Err e) P Q S f p q = tt

pub returns : goal.returns
returns g c = told c.map_vec.result _ _ _ (λ v len each i d l. (each i d (subst (λ n. i < n) (sym v.ok.0 ∙ (len ∙ c.args.workers.ok.0)) l)).1.call.met) c.map_vec.ensures.len c.map_vec.ensures.each
