use Rattle.std.proofs.Common.{arith}
use Rattle.ww_lock.proofs.Kept.{draws}
use Rattle.ww_lock.proofs.steps.draw.Goals as goal

pub compare_exchange-requires : goal.compare_exchange-requires
compare_exchange-requires g c = let w = g.W.Ward in (c.requires.ready.0, omega arith, draws w.facts w.lawful c.args.shared.now.key.posts _ _ _ c.args.old c.requires.ready.2 c.requires.none c.requires.ready.3)
