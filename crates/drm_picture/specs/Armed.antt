-- The jobs that a run arms.
use Rattle.std.specs.Prelude.{ℕ, List, Option, None, take}
use Rattle.std.specs.List.{enumerate_from, filter_map}
use Rattle.drm_state.specs.declared.answer.Answer.{Answer}
use Rattle.drm_state.specs.declared.answer.Answer.TheVariants as answer
use Rattle.drm_picture.specs.Bars.{armed_job}
use Rattle.drm_picture.specs.declared.command.Request.{Request}
use Rattle.drm_picture.specs.declared.command.Step.{Step}

-- the job that an answer arms, if it arms one
abbrev pub request_by : Option Request → Answer → Option Request
request_by job (answer.Armed fence) = job
request_by job _ = None

-- the job that is armed at this place of a run, if one is
abbrev pub request_at : List Step → ℕ × Step → Option Request
request_at run p = request_by (armed_job (take p.0 run) p.1) p.1.answer

-- the jobs that a run arms, in the order of their fences: fences are numbered as they are armed
abbrev pub requests_of : List Step → List Request
requests_of run = filter_map (request_at run) (enumerate_from 0 run)
