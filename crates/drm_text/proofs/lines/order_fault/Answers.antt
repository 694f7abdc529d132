use Rattle.std.proofs.Common.{rules}
use Rattle.drm_text.proofs.lines.order_fault.Goals as goal

pub returns : goal.returns
returns c = search rules
