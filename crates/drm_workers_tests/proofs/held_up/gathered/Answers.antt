use Rattle.std.proofs.Common.{◌≡◌, ◌∙◌, All, List, subst}
use Rattle.std.proofs.lemmas.List.Elements.{All-tail}
use Rattle.drm_workers.specs.declared.work.Done.{Done}
use Rattle.drm_workers_tests.proofs.held_up.gathered.Goals as goal

pub loop-done-preserved : goal.loop-done-preserved
loop-done-preserved g c = (
  c.join-pass.ensures.gpu ∙ c.loop-done.invariant.0,
  All-tail (λ (d : Done). d.pass.gpu ≡ c.args.gpu.now) _ _
      (subst (λ (ds : List Done). All (λ (d : Done). d.pass.gpu ≡ c.args.gpu.now) ds) c.in-Some.ensures.steps.0 c.loop-done.invariant.1),
)
