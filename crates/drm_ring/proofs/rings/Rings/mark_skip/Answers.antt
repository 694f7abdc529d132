use Rattle.drm_ring.proofs.Passing.{rings_pass}
use Rattle.drm_ring.proofs.rings.Rings.mark_skip.Goals as goal

pub returns : goal.returns
returns g c =
    rings_pass _ c.self.inside.lists.items c.args.self.now c.args.ring c.index_mut.result.now c.mark_skip.new.self c.self.view_is c.requires.there
    c.index_mut.ensures.value c.mark_skip.ensures.passes c.mark_skip.ensures.rest
