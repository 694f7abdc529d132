use Rattle.drm_words.proofs.Refusals.{nothing_queued}
use Rattle.drm_words.proofs.refused.place_nothing.Goals as goal

pub returns : goal.returns
returns c = rw nothing_queued (rw c.entity_in-entity.ensures at c.place_one.ensures)
