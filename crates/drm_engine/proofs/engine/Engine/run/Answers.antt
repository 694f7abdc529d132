use Rattle.std.proofs.Common.{rules}
use Rattle.drm_engine.proofs.engine.Engine.run.Goals as goal

pub returns-in-Serial-clause-ending : goal.returns-in-Serial-clause-ending
returns-in-Serial-clause-ending g c = search rules
