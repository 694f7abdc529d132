use Rattle.std.proofs.Common.{rules}
use Rattle.drm_text.proofs.words.Words.left.Goals as goal

pub returns : goal.returns
returns c = search rules
