use Rattle.drm_lists.proofs.Places.{at_index}
use Rattle.drm_table.proofs.Balancing.{load_kept, load_there}
use Rattle.drm_table.proofs.table.Table.load.Goals as goal

pub returns : goal.returns
returns c =
    let t = c.args.self.now in
    load_kept t c.args.ring c.index.result.now c.requires.whole
    (at_index t.loads.live.items c.args.ring c.index.result.now c.index.ensures (load_there t c.args.ring c.requires.whole c.requires.there))
