use Rattle.std.proofs.Common.{rules}
use Rattle.drm_state.proofs.rows.is_complete.Goals as goal

pub returns-else-armed : goal.returns-else-armed
returns-else-armed c = search rules
