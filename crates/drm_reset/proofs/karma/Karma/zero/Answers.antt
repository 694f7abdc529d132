use Rattle.std.proofs.Common.{rules}
use Rattle.drm_reset.proofs.karma.Karma.zero.Goals as goal

pub returns : goal.returns
returns c = search rules
