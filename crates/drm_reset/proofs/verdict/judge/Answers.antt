use Rattle.std.proofs.Common.{rules}
use Rattle.drm_reset.proofs.verdict.judge.Goals as goal

pub returns-then-age-timeout : goal.returns-then-age-timeout
returns-then-age-timeout c = search rules

pub returns-then-head : goal.returns-then-head
returns-then-head c = search rules

pub returns-in-None : goal.returns-in-None
returns-in-None c = search rules
