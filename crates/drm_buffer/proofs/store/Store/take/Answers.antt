use Rattle.drm_buffer.proofs.Stores.{taken}
use Rattle.drm_buffer.proofs.store.Store.take.Goals as goal

pub returns-clause-left : goal.returns-clause-left
returns-clause-left c =
    taken c.self.inside.places.items c.args.self.now c.number.result c.args.buffer c.index_mut.result.now c.take.new.self c.self.view_is c.number.ensures
    c.index_mut.ensures.value c.take.ensures.shown c.take.ensures.out
