use Rattle.std.proofs.Common.{slice_get, ap, ◌∙◌}
use Rattle.drm_lists.proofs.Places.{lent_is}
use Rattle.drm_ring.specs.RingRows.{RingRow}
use Rattle.drm_ring.proofs.pending.PendingList.current.Goals as goal

pub returns : goal.returns
returns c = c.copied.ensures ∙ (lent_is _ _ _ c.get.ensures.item ∙ ap (λ (r : RingRow). slice_get r.state.pending r.passed) c.self.view_is)
