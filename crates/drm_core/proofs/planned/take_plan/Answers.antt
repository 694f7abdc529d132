use Rattle.std.proofs.Common.{rules}
use Rattle.drm_core.proofs.planned.take_plan.Goals as goal

pub returns-in-Some-take-clause-left : goal.returns-in-Some-take-clause-left
returns-in-Some-take-clause-left c = search rules

pub returns-in-None-take-clause-left : goal.returns-in-None-take-clause-left
returns-in-None-take-clause-left c = search rules
