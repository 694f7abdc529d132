use Rattle.std.proofs.Common.{rules}
use Rattle.drm_script.specs.Run.{runnable_or}
use Rattle.drm_script.proofs.run_script.check_runnable.Goals as goal

pub returns-then-number-spec : goal.returns-then-number-spec
unfolding runnable_or
returns-then-number-spec c = search rules
