use Rattle.std.proofs.Common.{rules}
use Rattle.drm_engine.proofs.comparison.Comparison.ending.Goals as goal

pub returns-in-Differs : goal.returns-in-Differs
returns-in-Differs c = search rules
