use Rattle.std.proofs.Common.{rules}
use Rattle.drm_serial.proofs.serial.Serial.into_buffers.Goals as goal

pub returns : goal.returns
returns c = search rules
