use Rattle.std.proofs.Common.{rules}
use Rattle.drm_types.proofs.sequence.Sequence.push.Goals as goal

pub returns-clause-ok : goal.returns-clause-ok
returns-clause-ok g c = search rules
