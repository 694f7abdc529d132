use Rattle.std.proofs.Common.{◌∙◌, ap}
use Rattle.std.proofs.lemmas.Result.{IfOk-weaker}
use Rattle.drm_why.specs.Lines.{text_of_jobs}
use Rattle.drm_why.proofs.asking.jobs.Goals as goal

pub returns : goal.returns
returns c =
    IfOk-weaker c.jobs_text.result _ _ (λ text same. (c.in_ok-core.core, c.in_ok-core.ensures, same ∙ ap text_of_jobs c.device.ensures.state)) c.jobs_text.ensures
