use Rattle.std.proofs.Common.{rules}
use Rattle.drm_stream.proofs.input.read_behind.Goals as goal

pub returns-clause-end : goal.returns-clause-end
returns-clause-end g c = search rules
