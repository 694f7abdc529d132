use Rattle.std.proofs.Common.{rules}
use Rattle.drm_reset.proofs.karma.Karma.karma.Goals as goal

pub returns : goal.returns
returns c = search rules
