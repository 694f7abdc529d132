use Rattle.std.proofs.Common.{rules}
use Rattle.drm_state.proofs.loads.Loads.new.Goals as goal

pub returns-clause-live : goal.returns-clause-live
returns-clause-live c = search rules
