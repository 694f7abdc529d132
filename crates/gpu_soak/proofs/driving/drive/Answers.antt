use Rattle.std.proofs.Common.{rules}
use Rattle.gpu_soak.proofs.driving.drive.Goals as goal

pub finish-requires-clause-ring : goal.finish-requires-clause-ring
finish-requires-clause-ring g c = search rules
