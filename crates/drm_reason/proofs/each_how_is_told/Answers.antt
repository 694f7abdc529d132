use Rattle.drm_reason.proofs.Hows.{each_how_is_told as is_told}
use Rattle.drm_reason.proofs.each_how_is_told.Goals as goal

pub returns : goal.returns
returns c = is_told
