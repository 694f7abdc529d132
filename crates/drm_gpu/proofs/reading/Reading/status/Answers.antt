use Rattle.std.proofs.Common.{rules}
use Rattle.drm_gpu.proofs.reading.Reading.status.Goals as goal

pub returns-clause-status : goal.returns-clause-status
returns-clause-status c = search rules
