use Rattle.std.proofs.Common.{rules}
use Rattle.drm_reset.proofs.karma.Karma.blame.Goals as goal

pub returns-clause-too_much : goal.returns-clause-too_much
returns-clause-too_much c = search rules

pub returns-clause-counts : goal.returns-clause-counts
returns-clause-counts c = search rules
