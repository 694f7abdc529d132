use Rattle.std.proofs.Common.{rules}
use Rattle.drm_table.proofs.table.Table.arming_ring.Goals as goal

pub returns-in-Some : goal.returns-in-Some
returns-in-Some c = search rules
