use Rattle.std.proofs.Common.{rules}
use Rattle.drm_table.proofs.table.Table.arm_refusal.Goals as goal

pub returns-in-Some : goal.returns-in-Some
returns-in-Some c = search rules

pub returns-in-None : goal.returns-in-None
returns-in-None c = search rules
