use Rattle.ww_lock.proofs.Kept.{enters}
use Rattle.ww_lock.proofs.steps.enter.Goals as goal

pub compare_exchange-requires : goal.compare_exchange-requires
compare_exchange-requires g c = let ward = g.W.Ward in (c.requires.0, c.requires.1, enters ward.facts ward.lawful c.args.shared.now.key.posts _ _ _ c.requires.2)
