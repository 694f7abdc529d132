use Rattle.std.proofs.Common.{rules}
use Rattle.drm_text.proofs.parts.end_by_bytes.Goals as goal

pub loop-end-init : goal.loop-end-init
loop-end-init c = search rules
