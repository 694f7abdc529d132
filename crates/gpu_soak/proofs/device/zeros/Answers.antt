use Rattle.std.proofs.Common.{rules}
use Rattle.gpu_soak.proofs.device.zeros.Goals as goal

pub returns : goal.returns
returns c = search rules
