use Rattle.std.proofs.Common.{◌≡◌, ◌++◌}
use Rattle.drm_conform.specs.Words.{text_of_jobs}
use Rattle.drm_conform.proofs.answering.put_jobs.Given as goal

abbrev pub invariant-loop-job : goal.invariant-loop-job
invariant-loop-job l = l.text.items ≡ l.fn.text.items ++ text_of_jobs l.log l.job
