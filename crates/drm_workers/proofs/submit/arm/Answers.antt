use Rattle.std.proofs.Common.{◌∙◌, [], sym, ap, subst}
use Rattle.drm_workers.specs.Jobs.{JobAt}
use Rattle.drm_workers.specs.Armings.{HasArmed}
use Rattle.drm_workers.proofs.Arming.{arm_arms, arm_job, has_then, refused_arms}
use Rattle.drm_workers.proofs.submit.arm.Goals as goal

pub returns-in-Ok-clause-armed : goal.returns-in-Ok-clause-armed
returns-in-Ok-clause-armed g c = has_then _ _ _ _ c.loop.invariant.0 (arm_arms c.only_armings_arm.ensures _ _ _ _ _ _ _ c.in-Ok.ensures.armed)

pub returns-in-Ok-clause-job : goal.returns-in-Ok-clause-job
returns-in-Ok-clause-job g c = subst (λ job. JobAt c.in-Ok.armed.pass.last.state.journal c.in-Ok.armed.fence job) c.loop.invariant.1 (arm_job c.only_armings_arm.ensures _ _ _ _ _ _ _ c.in-Ok.ensures.armed)

pub returns-then-not-make-clause-back : goal.returns-then-not-make-clause-back
returns-then-not-make-clause-back g c =
    subst (λ p. HasArmed [] c.args.planned.submission.pass p) (sym c.abandon-pass.ensures.0) (has_then _ _ _ _ c.loop.invariant.0 (refused_arms c.only_armings_arm.ensures c.loop.planned.submission.job c.in-Err.field-0-1 _ _ c.in-Err.ensures.refused.0))

pub loop-preserved : goal.loop-preserved
loop-preserved g c = (has_then _ _ _ _ c.loop.invariant.0 (refused_arms c.only_armings_arm.ensures c.loop.planned.submission.job c.in-Err.field-0-1 _ _ c.in-Err.ensures.refused.0), ap (λ p. p.submission.job) c.in-Err.ensures.refused.1 ∙ c.loop.invariant.1)
