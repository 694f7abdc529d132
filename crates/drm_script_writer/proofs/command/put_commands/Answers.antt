use Rattle.std.proofs.Common.{arith}
use Rattle.std.proofs.lemmas.Grind.{common_steps}
use Rattle.drm_script_writer.proofs.command.put_commands.Goals as goal

pub loop-event-preserved : goal.loop-event-preserved
loop-event-preserved c = grind (arith, common_steps)
