use Rattle.std.proofs.Common.{arith}
use Rattle.ww_lock.proofs.Kept.{splits}
use Rattle.ww_lock.proofs.steps.split.Goals as goal

pub split_seat-requires : goal.split_seat-requires
split_seat-requires g c = let ward = g.W.Ward in (c.requires.0, omega arith, splits ward.facts ward.lawful c.args.shared.now.key.posts _ _)
