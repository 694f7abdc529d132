use Rattle.std.proofs.Common.{◌∙◌, ap}
use Rattle.drm_gpu.specs.Submissions.{PlannedSubmission}
use Rattle.drm_gpu.proofs.submission.Planned.abandon.Goals as goal

pub returns : goal.returns
returns c = (
  c.release_and_end.ensures ∙ ap (λ (p : PlannedSubmission). p.submission.pass) c.self.view_is,
  c.unbox-boxed.ensures.job ∙ ap (λ (p : PlannedSubmission). p.submission.job) c.self.view_is,
)
