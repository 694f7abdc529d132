use Rattle.drm_serial.proofs.Sizes.{sizes-serial}
use Rattle.drm_serial.proofs.laws.serial_keeps_sizes.Goals as goal

pub returns : goal.returns
returns c = sizes-serial
