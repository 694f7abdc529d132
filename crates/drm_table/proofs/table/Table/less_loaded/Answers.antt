use Rattle.std.proofs.Common.{rules}
use Rattle.drm_table.proofs.table.Table.less_loaded.Goals as goal

pub returns-then-load-clause-less : goal.returns-then-load-clause-less
returns-then-load-clause-less c = search rules
