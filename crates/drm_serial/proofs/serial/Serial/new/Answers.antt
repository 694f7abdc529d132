use Rattle.std.proofs.Common.{rules}
use Rattle.drm_serial.proofs.serial.Serial.new.Goals as goal

pub returns : goal.returns
returns c = search rules
