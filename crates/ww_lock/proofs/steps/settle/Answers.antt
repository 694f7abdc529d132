use Rattle.ww_lock.proofs.Kept.{settles}
use Rattle.ww_lock.proofs.steps.settle.Goals as goal

pub load-requires : goal.load-requires
load-requires g c = let ward = g.W.Ward in let o = c.requires.outside in
    (c.requires.table.0, c.requires.table.1, settles ward.facts ward.lawful c.args.shared.now.key.posts _ c.args.place.now.id c.args.place.now.me o.1.0 o.1.1 o.1.2 o.0)
