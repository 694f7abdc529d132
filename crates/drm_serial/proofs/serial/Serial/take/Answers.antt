use Rattle.std.proofs.Common.{arith}
use Rattle.std.proofs.lemmas.Grind.{common_steps}
use Rattle.drm_serial.proofs.serial.Serial.take.Goals as goal

pub returns-clause-turn : goal.returns-clause-turn
returns-clause-turn c = grind (arith, common_steps)
