use Rattle.drm_gpu.proofs.Agreeing.{agree}
use Rattle.drm_gpu.proofs.reading.readbacks_agree.Goals as goal

pub returns : goal.returns
returns c = agree c.bytes_stay.ensures
