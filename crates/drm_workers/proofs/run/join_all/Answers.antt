use Rattle.std.proofs.Common.{◌≡◌, [], ◌∷◌, ◌++◌, length, rules, sym, subst}
use Rattle.std.specs.Vec.Iter.{into_iter_items}
use Rattle.drm_workers.specs.Charges.{AreKept}
use Rattle.drm_workers.proofs.Lists.{unit, one_more, none_left}
use Rattle.drm_workers.proofs.run.join_all.Goals as goal

pub loop-handle-init : goal.loop-handle-init
loop-handle-init g c =
    let all = c.args.handles.items in (
      (λ ds k. subst (λ xs. AreKept (λ h. h.promise) all (xs ++ ds)) (sym c.requires.0) (subst (λ hs. AreKept (λ h. h.promise) hs ds) c.into_iter-handle-iterator.ensures.into_iter_gives.0 k)),
      search rules,
    )

pub loop-handle-preserved : goal.loop-handle-preserved
loop-handle-preserved g c =
    let all = c.args.handles.items in let was = c.loop-handle.invariant in let step = c.in-Some.ensures.steps in let d = c.join.result in (
      (λ ds k. subst (λ xs. AreKept (λ h. h.promise) all (xs ++ ds)) (sym c.push_reserved.ensures.items)
          (subst (λ xs. AreKept (λ h. h.promise) all xs) (sym (one_more c.loop-handle.dones.items d ds))
          (was.0 (d ∷ ds) (subst (λ hs. AreKept (λ h. h.promise) hs (d ∷ ds)) (sym step.0) (c.join.ensures, k))))),
      search rules,
    )

pub returns : goal.returns
returns g c =
    let was = c.loop-handle.invariant in let it = c.loop-handle.handle-iterator in
    let few : length (into_iter_items it) ≡ 0 = search rules in
    subst (λ xs. AreKept (λ h. h.promise) c.args.handles.items xs) (unit c.loop-handle.dones.items)
    (was.0 [] (subst (λ hs. AreKept (λ h. h.promise) hs []) (sym (none_left (into_iter_items it) few)) tt))
