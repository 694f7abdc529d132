use Rattle.std.proofs.Common.{arith}
use Rattle.std.proofs.lemmas.Grind.{common_steps}
use Rattle.drm_buffer.proofs.store.Store.copy_of.Goals as goal

pub loop-original-preserved : goal.loop-original-preserved
loop-original-preserved c = grind (arith, common_steps)
