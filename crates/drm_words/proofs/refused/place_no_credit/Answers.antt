use Rattle.drm_words.proofs.Refusals.{no_credit}
use Rattle.drm_words.proofs.refused.place_no_credit.Goals as goal

pub returns : goal.returns
returns c = rw no_credit (rw c.ring_in-ring.ensures at (rw c.from.ensures at (rw c.from-2.ensures at c.place_three.ensures)))
