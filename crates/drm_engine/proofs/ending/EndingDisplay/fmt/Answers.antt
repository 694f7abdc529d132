use Rattle.std.proofs.Common.{rules}
use Rattle.drm_engine.proofs.ending.EndingDisplay.fmt.Goals as goal

pub returns-in-NoInput-clause-writes : goal.returns-in-NoInput-clause-writes
returns-in-NoInput-clause-writes g c = search rules
