use Rattle.std.proofs.Common.{sym}
use Rattle.drm_fence.proofs.Pairs.{still_none}
use Rattle.drm_fence.proofs.table.Table.clear.Goals as goal

pub returns-in_default-clause-cells : goal.returns-in_default-clause-cells
returns-in_default-clause-cells c = sym (still_none c.args.self.now.cells.items c.args.place c.in_default.ensures.none)
