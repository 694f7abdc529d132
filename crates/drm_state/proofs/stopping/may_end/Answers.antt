use Rattle.std.proofs.Common.{rules}
use Rattle.drm_state.proofs.stopping.may_end.Goals as goal

pub returns-then-have_outcomes : goal.returns-then-have_outcomes
returns-then-have_outcomes c = search rules

pub returns-else-have_outcomes : goal.returns-else-have_outcomes
returns-else-have_outcomes c = search rules
