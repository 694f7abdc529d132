use Rattle.std.proofs.Common.{rules}
use Rattle.drm_text.proofs.lines.find_fault.Goals as goal

pub loop-byte-init : goal.loop-byte-init
loop-byte-init c = search rules
