use Rattle.std.proofs.Common.{arith}
use Rattle.std.proofs.lemmas.Grind.{common_steps}
use Rattle.drm_state.proofs.arming.note_named.Goals as goal

pub loop-fence-preserved : goal.loop-fence-preserved
loop-fence-preserved c = grind (arith, common_steps)
