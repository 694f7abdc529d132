use Rattle.std.proofs.Common.{rules}
use Rattle.drm_engine.proofs.ending.Ending.of_input.Goals as goal

pub returns-in-Failed : goal.returns-in-Failed
returns-in-Failed c = search rules
