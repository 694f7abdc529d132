use Rattle.std.proofs.Common.{arith}
use Rattle.ww_lock.proofs.Kept.{exhausts}
use Rattle.ww_lock.proofs.steps.exhaust.Goals as goal

pub load-requires : goal.load-requires
load-requires g c = let w = g.W.Ward in (c.requires.0, omega arith, exhausts w.facts w.lawful c.args.shared.now.key.posts _ _ _ c.requires.2)
