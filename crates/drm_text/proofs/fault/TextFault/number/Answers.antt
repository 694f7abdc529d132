use Rattle.std.proofs.Common.{rules}
use Rattle.drm_text.proofs.fault.TextFault.number.Goals as goal

pub returns-in-NoEnd : goal.returns-in-NoEnd
returns-in-NoEnd c = search rules
