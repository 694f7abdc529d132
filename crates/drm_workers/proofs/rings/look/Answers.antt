use Rattle.std.proofs.Common.{◌∙◌}
use Rattle.drm_workers.proofs.Arming.{timeout_arms}
use Rattle.drm_workers.proofs.rings.look.Goals as goal

pub loop-ring-preserved : goal.loop-ring-preserved
loop-ring-preserved g c =
    let h = timeout_arms c.only_armings_arm.ensures c.loop-ring.ring c.now.result c.timeout.result _ _ c.timeout.ensures.call in (h.0 ∙ c.loop-ring.invariant.0, h.1 ∙ c.loop-ring.invariant.1, h.2 ∙ c.loop-ring.invariant.2)
