use Rattle.drm_words.proofs.Refusals.{no_fence}
use Rattle.drm_words.proofs.refused.place_no_fence.Goals as goal

pub returns : goal.returns
returns c = rw no_fence (rw c.from.ensures at c.place_one.ensures)
