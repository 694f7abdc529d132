use Rattle.std.proofs.Common.{arith}
use Rattle.ww_lock.proofs.Kept.{joins}
use Rattle.ww_lock.proofs.steps.join.Goals as goal

pub join_seat-requires : goal.join_seat-requires
join_seat-requires g c = let ward = g.W.Ward in let q = c.requires in (q.table.0, q.table.1, q.none.1, omega arith, joins ward.facts ward.lawful c.args.shared.now.key.posts _ _ _ _ q.none.0 q.outside.0 q.outside.1)
