use Rattle.std.proofs.Common.{arith}
use Rattle.drm_fence.proofs.table.Table.lists.Goals as goal

pub returns : goal.returns
returns c = omega (arith, c.len.ensures, c.len-2.ensures, c.requires)
