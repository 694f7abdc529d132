use Rattle.drm_workers.proofs.Arming.{finish_arms}
use Rattle.drm_workers.proofs.rings.finish_head.Goals as goal

pub returns-then-is_err-clause-arms : goal.returns-then-is_err-clause-arms
returns-then-is_err-clause-arms g c = finish_arms c.only_armings_arm.ensures c.args.ring c.now.result c.finish.result _ _ c.finish.ensures.call

pub returns-clause-arms : goal.returns-clause-arms
returns-clause-arms g c = finish_arms c.only_armings_arm.ensures c.args.ring c.now.result c.finish.result _ _ c.finish.ensures.call

pub returns-clause-counts : goal.returns-clause-counts
returns-clause-counts g c = c.end_job.ensures
