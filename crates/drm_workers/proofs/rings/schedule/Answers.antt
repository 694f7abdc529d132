use Rattle.std.proofs.Common.{◌∙◌}
use Rattle.drm_workers.proofs.Arming.{pick_arms}
use Rattle.drm_workers.proofs.rings.schedule.Goals as goal

pub loop-preserved-then-is_ok : goal.loop-preserved-then-is_ok
loop-preserved-then-is_ok g c =
    let h = pick_arms c.only_armings_arm.ensures c.args.ring c.now.result c.pick.result _ _ c.pick.ensures.call in (h.0 ∙ c.loop.invariant.0, h.1 ∙ c.loop.invariant.1, h.2 ∙ c.loop.invariant.2)

pub loop-preserved : goal.loop-preserved
loop-preserved g c =
    let h = pick_arms c.only_armings_arm.ensures c.args.ring c.now.result c.pick.result _ _ c.pick.ensures.call in (h.0 ∙ c.loop.invariant.0, h.1 ∙ c.loop.invariant.1, h.2 ∙ c.loop.invariant.2)

pub returns-in-Done : goal.returns-in-Done
returns-in-Done g c =
    let h = pick_arms c.only_armings_arm.ensures c.args.ring c.now.result c.pick.result _ _ c.pick.ensures.call in (h.0 ∙ c.loop.invariant.0, h.1 ∙ c.loop.invariant.1, h.2 ∙ c.loop.invariant.2)

pub returns-in-GiveUp : goal.returns-in-GiveUp
returns-in-GiveUp g c =
    let h = pick_arms c.only_armings_arm.ensures c.args.ring c.now.result c.pick.result _ _ c.pick.ensures.call in (h.0 ∙ c.loop.invariant.0, h.1 ∙ c.loop.invariant.1, h.2 ∙ c.loop.invariant.2)
