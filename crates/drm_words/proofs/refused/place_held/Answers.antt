use Rattle.drm_words.proofs.Refusals.{held}
use Rattle.drm_words.proofs.refused.place_held.Goals as goal

pub returns : goal.returns
returns c = rw held (rw c.number.ensures at (rw c.from-held.ensures at c.place_one.ensures))
