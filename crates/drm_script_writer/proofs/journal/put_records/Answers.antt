use Rattle.std.proofs.Common.{arith}
use Rattle.std.proofs.lemmas.Grind.{common_steps}
use Rattle.drm_script_writer.proofs.journal.put_records.Goals as goal

pub loop-armed-preserved : goal.loop-armed-preserved
loop-armed-preserved c = grind (arith, common_steps)
