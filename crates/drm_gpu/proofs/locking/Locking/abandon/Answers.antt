use Rattle.std.proofs.Common.{◌∙◌, ap}
use Rattle.drm_gpu.specs.Submissions.{Submission}
use Rattle.drm_gpu.proofs.locking.Locking.abandon.Goals as goal

pub returns : goal.returns
returns c = (
  c.release_and_end.ensures ∙ ap (λ (s : Submission). s.pass) c.self.view_is,
  c.unbox-boxed.ensures.job ∙ ap (λ (s : Submission). s.job) c.self.view_is,
)
