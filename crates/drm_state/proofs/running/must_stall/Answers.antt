use Rattle.std.proofs.Common.{rules}
use Rattle.drm_state.proofs.running.must_stall.Goals as goal

pub returns-in-Stall : goal.returns-in-Stall
returns-in-Stall c = search rules
