use Rattle.std.proofs.Common.{arith}
use Rattle.drm_fence.proofs.table.Table.reach.Goals as goal

pub returns-clause-fence : goal.returns-clause-fence
returns-clause-fence c = omega (arith, c.lists.ensures, c.missing-test.false)
