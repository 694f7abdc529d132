use Rattle.std.proofs.Common.{arith}
use Rattle.std.proofs.lemmas.Grind.{common_steps}
use Rattle.drm_buffer.proofs.buffer.Buffer.add_within.Goals as goal

pub returns : goal.returns
returns c = grind (arith, common_steps)
