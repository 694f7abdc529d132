use Rattle.drm_reason.proofs.RetiredJobs.{retired_stay as stay}
use Rattle.drm_reason.proofs.retired_stay.Goals as goal

pub returns : goal.returns
returns c = stay
