use Rattle.ww_lock.proofs.Kept.{reads_back}
use Rattle.ww_lock.proofs.steps.read_back.Goals as goal

pub load-requires : goal.load-requires
load-requires g c = let ward = g.W.Ward in let t = c.requires.table in
    (t.0, t.2, rw t.1 (reads_back ward.facts ward.lawful c.args.shared.now.key.posts _ c.args.place.now.id c.args.place.now.me c.args.fence c.requires.seat t.3))
