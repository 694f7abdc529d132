use Rattle.drm_core.specs.Jobs.{job_of}
use Rattle.drm_script.specs.Kept.{no_job}
use Rattle.drm_script.proofs.Joined.{at_none, first_alone, none_asked, rest_alone}
use Rattle.drm_script.proofs.chunk.bare_event.Goals as goal

pub map_job-requires : goal.map_job-requires
map_job-requires c = none_asked (job_of c.args.kept) _ c.requires

pub returns-clause-event : goal.returns-clause-event
returns-clause-event c = λ rest jobs.
    first_alone c.args.kept rest jobs c.map_job.result c.requires (at_none (job_of c.args.kept) _ _ c.requires c.map_job.ensures (λ job. no_job))

pub returns-clause-matched : goal.returns-clause-matched
returns-clause-matched c = λ rest jobs. rest_alone c.args.kept rest jobs c.requires
