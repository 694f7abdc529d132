use Rattle.std.proofs.Common.{rules}
use Rattle.drm_text.proofs.hexadecimal.put_block.Goals as goal

pub returns : goal.returns
returns c = search rules
