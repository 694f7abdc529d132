use Rattle.drm_runq.proofs.Cleared.{place_is}
use Rattle.drm_runq.proofs.queue.find.Goals as goal

pub returns-in_default : goal.returns-in_default
returns-in_default c =
    place_is _ _ _ _ c.requires.sorted c.requires.there c.place_of.ensures.before c.place_of.ensures.after
