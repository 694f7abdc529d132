use Rattle.drm_buffer.proofs.Stores.{put_back_in}
use Rattle.drm_buffer.proofs.store.Store.put.Goals as goal

pub returns : goal.returns
returns c = put_back_in c.self.inside.places.items c.args.self.now c.number.result c.args.buffer c.args.bytes c.self.view_is c.number.ensures
