use Rattle.drm_words.proofs.Refusals.{not_complete}
use Rattle.drm_words.proofs.refused.place_not_complete.Goals as goal

pub returns : goal.returns
returns c = rw not_complete (rw c.ring_in-ring.ensures at c.place_one.ensures)
