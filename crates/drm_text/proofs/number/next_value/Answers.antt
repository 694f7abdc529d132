use Rattle.std.proofs.Common.{rules}
use Rattle.drm_text.proofs.number.next_value.Goals as goal

pub returns : goal.returns
returns c = search rules
