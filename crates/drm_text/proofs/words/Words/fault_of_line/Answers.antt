use Rattle.std.proofs.Common.{rules}
use Rattle.drm_text.proofs.words.Words.fault_of_line.Goals as goal

pub returns : goal.returns
returns c = search rules
