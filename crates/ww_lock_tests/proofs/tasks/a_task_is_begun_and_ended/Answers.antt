use Rattle.std.proofs.Common.{rules, arith, ap, sym, refl, ◌≡◌, ◌∙◌}
use Rattle.ww_lock_tests.proofs.tasks.a_task_is_begun_and_ended.Goals as goal

pub leave-requires-clause-facts : goal.leave-requires-clause-facts
leave-requires-clause-facts g c = let p = c.enter-pivot.result in let zero : p ≡ 0 = search rules in (
  p,
  ap (λ v. v.pivot.seen) c.enter-pivot.ensures.view,
  tt,
  tt,
  (λ b x h. tt),
  (λ b x none h. tt),
  (λ f. refl),
  (
    ap (λ v. v.task) c.enter-pivot.ensures.view ∙ ap (λ v. v.task) c.split-first.ensures.views.0 ∙ ap (λ v. v.task) c.in_ok-board.ensures.view,
    (λ h. let e = h.0 in omega arith),
    (refl, omega arith),
    (λ s h. let e = h.0 in let l = h.1 in absurd (omega arith)),
  ),
)

pub leave-requires-2-clause-facts : goal.leave-requires-2-clause-facts
leave-requires-2-clause-facts g c = (c.enter-pivot-2.result, ap (λ v. v.pivot.seen) c.enter-pivot-2.ensures.view, tt, tt, (λ b x h. tt), (λ b x none h. tt), (λ f. refl), (λ t h. h))

pub leave-requires-3-clause-facts : goal.leave-requires-3-clause-facts
leave-requires-3-clause-facts g c = let begun = ap (λ v. v.task) c.leave.ensures.view.2 in let seven = c.enter-pivot-3.ensures.later.waits 7 begun in (
  c.enter-pivot-3.result,
  ap (λ v. v.pivot.seen) c.enter-pivot-3.ensures.view,
  tt,
  tt,
  (λ b x h. tt),
  (λ b x none h. tt),
  (λ f. refl),
  (7, ap (λ v. v.task) c.enter-pivot-3.ensures.view ∙ begun, (λ s no h. absurd (no (sym h.0 ∙ seven.0)))),
)
