use Rattle.drm_job.proofs.Sound.{sound_from, job_from}
use Rattle.drm_job.proofs.laws.jobs_are_the_sound_drafts.Goals as goal

pub returns : goal.returns
returns c = λ spec job. (sound_from spec job, job_from spec job)
