use Rattle.std.proofs.Common.{arith}
use Rattle.drm_fence.proofs.waiters.Waiters.prepare_next.Goals as goal

pub add_list-requires-clause-room : goal.add_list-requires-clause-room
add_list-requires-clause-room c = omega (arith, c.lists.ensures, c.if-lists-self.true, c.self.invariant.1)
