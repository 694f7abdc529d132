use Rattle.drm_job.proofs.Within.{stays_within}
use Rattle.drm_job.proofs.job.Job.of_sound.Goals as goal

pub invariant_of-result : goal.invariant_of-result
invariant_of-result c = stays_within c.requires.0 c.args.draft c.requires.1
