use Rattle.std.proofs.Common.{rules}
use Rattle.drm_answer.proofs.answers.put_separated.Goals as goal

pub loop-value-init : goal.loop-value-init
loop-value-init c = search rules
