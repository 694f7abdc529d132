use Rattle.ww_lock.proofs.Kept.{looks_on}
use Rattle.ww_lock.proofs.steps.look.Goals as goal

pub load-requires : goal.load-requires
load-requires g c = let ward = g.W.Ward in let t = c.requires.table in
    (t.0, t.2, rw t.1 (looks_on ward.facts ward.lawful c.args.shared.now.key.posts _ c.args.place.now.id c.args.place.now.me c.args.fence t.3))

pub returns-clause-shown : goal.returns-clause-shown
returns-clause-shown g c = (c.load.ensures.2 c.args.fence c.requires.table.1).1
