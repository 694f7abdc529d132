use Rattle.std.proofs.Common.{◌≡◌, [], ◌∷◌, ◌++◌, length, refl, rules, arith, sym, ap, ◌∙◌, subst}
use Rattle.std.proofs.lemmas.List.Elements.{All-rest, All-same}
use Rattle.std.specs.Vec.Iter.{into_iter_items}
use Rattle.std.specs.declared.thread.PromisedHandle.{PromisedHandle}
use contract.Lifetimes.{Lfts}
use denote.Param.{param}
use denote.Param.Send.{IsSend, IsSync, sendable}
use Rattle.std.proofs.Crossing.{crosses}
use Rattle.std.proofs.alloc.Global.TheSendSync as handle
use Rattle.std.proofs.sync.atomic.AtomicU64.TheSendSync as atomic
use Rattle.drm_gpu.specs.contracts.gpu.Gpu as Gpu
use Rattle.drm_gpu.specs.contracts.pass.Pass as Pass
use Rattle.drm_workers.proofs.work.Limits.TheSendSync as limits
use Rattle.drm_workers.specs.contracts.run_state.RunState as RunState
use Rattle.drm_workers.specs.contracts.run.fn.run_workers.scope.{R-row, C-row, G-row}
use Rattle.drm_workers.proofs.run.fn.run_workers.scope.Given.{Over}
use Rattle.drm_workers.proofs.run.fn.run_workers.scope.Lts.{arg-15-2}
use Rattle.drm_workers.proofs.Crosses.{gpu_row_sync, worker_send}
use Rattle.drm_workers.specs.declared.work.Charge.{Charge}
use Rattle.drm_workers.specs.declared.work.Done.{Done}
use Rattle.drm_workers.specs.Works.{AllWorked, MayWork}
use Rattle.drm_workers.specs.Charges.{AreCharges, IsCharge}
use Rattle.drm_workers.proofs.Joining.{all_worked}
use Rattle.drm_workers.proofs.Lists.{true_is_false, unit, one_more, none_left}
use Rattle.drm_workers.proofs.run.fn.run_workers.scope.Goals as goal
use Rattle.drm_workers.proofs.run.fn.run_workers.scope.Goals.{in-None, in-Some+in-Err}

pub loop-worker-init : goal.loop-worker-init
loop-worker-init g c =
    let gpu = c.captures.gpu.now in
    let it = c.into_iter-worker-iterator.result in
    let empty : c.in_ok-handles.handles.items ≡ [] = search rules in (
      (λ hs k. subst (λ xs. AreCharges (λ h. h.promise) gpu (into_iter_items it) (xs ++ hs)) (sym empty) k),
      All-same (MayWork gpu) (into_iter_items it) c.captures.workers.items c.into_iter-worker-iterator.ensures.into_iter_gives.0 c.requires.workers,
      search rules,
      search rules,
      search rules,
      refl,
    )

crossing : (g : Over) → IsSend (Pass.the_field).row → IsSync (Gpu.the_field).row → IsSync (R-row g.row.R g.row.C g.row.G) → IsSync (C-row g.row.R g.row.C g.row.G) → IsSync (G-row g.row.R g.row.C g.row.G) → (κs : Lfts 11)
    → IsSend (param 2 (arg-15-2 g.row.R g.row.C g.row.G g.R.laws g.C.laws g.G.laws g.R.Threads-dict g.R.Wait-dict g.C.Clock-dict g.G.Gate-dict κs))
crossing g p q r c h κs =
    let u = atomic.the_sync in
    let f : IsSync RunState.the_row = search sendable depth 20 in
    let w = worker_send p in let s = gpu_row_sync q in let l = limits.the_field_send in let a = handle.the_field_send in search (sendable, crosses) depth 20

pub spawn_with-started-requires-send-F : goal.spawn_with-started-requires-send-F
spawn_with-started-requires-send-F g c κs within =
    crossing g c.crosses_threads.ensures.pass c.crosses_threads.ensures.gpu c.requires.shared.0 c.requires.shared.1 c.requires.shared.2 κs

pub push_reserved-requires : goal.push_reserved-requires
push_reserved-requires g c = let was = c.loop-worker.invariant.2 in let step = c.in-Some.ensures.steps.1 in omega arith

pub loop-worker-preserved : goal.loop-worker-preserved
loop-worker-preserved g c =
    let gpu = c.captures.gpu.now in
    let was = c.loop-worker.invariant in let step = c.in-Some.ensures.steps in let h = c.in-Ok.handle in
    let all = into_iter_items c.into_iter-worker-iterator.result in
    let charge : IsCharge gpu c.in-Some.worker h.promise = record {
      device = ap (λ p. p.gpu.value) c.in-Ok.ensures.ok ∙ c.of.ensures;
      by = ap (λ p. p.worker.value) c.in-Ok.ensures.ok ∙ c.of-in-loop-worker.ensures;
    } in (
      (λ hs k. subst (λ xs. AreCharges (λ h. h.promise) gpu all (xs ++ hs)) (sym c.push_reserved.ensures.items)
          (subst (λ xs. AreCharges (λ h. h.promise) gpu all xs) (sym (one_more c.loop-worker.handles.items h hs))
          (was.0 (h ∷ hs) (subst (λ ws. AreCharges (λ h. h.promise) gpu ws (h ∷ hs)) (sym step.0) (charge, k))))),
      All-rest (MayWork gpu) _ _ _ step.0 was.1,
      search rules,
      search rules,
      was.4,
      was.5,
    )

pub returns : goal.returns
returns g c =
    let gpu = c.captures.gpu.now in
    let was = c.loop-worker.invariant in let it = c.loop-worker.worker-iterator in
    let all = into_iter_items c.into_iter-worker-iterator.result in let hs = c.loop-worker.handles.items in
    elim c.match-next.branch [
      | in-None w ↦
          let few : length (into_iter_items it) ≡ 0 = search rules in
          let charges : AreCharges (λ (h : PromisedHandle Done Charge). h.promise) gpu all hs =
          subst (λ xs. AreCharges (λ (h : PromisedHandle Done Charge). h.promise) gpu all xs) (unit hs)
          (was.0 [] (subst (λ ws. AreCharges (λ (h : PromisedHandle Done Charge). h.promise) gpu ws []) (sym (none_left (into_iter_items it) few)) tt)) in
          subst (λ ws. AllWorked gpu ws c.join_all.new.dones.items) c.into_iter-worker-iterator.ensures.into_iter_gives.0
          (all_worked (λ (h : PromisedHandle Done Charge). h.promise) gpu all hs c.join_all.new.dones.items charges c.join_all.ensures)
      | in-Some+in-Err w ↦ absurd (true_is_false (sym w.is_short-is ∙ c.if-is_short-2.false))
    ]
