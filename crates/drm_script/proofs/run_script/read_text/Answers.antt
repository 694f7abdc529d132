use Rattle.std.proofs.Common.{rules}
use Rattle.drm_script.specs.Run.{judge_run}
use Rattle.drm_script.proofs.run_script.read_text.Goals as goal

pub new-lines-requires : goal.new-lines-requires
unfolding judge_run
new-lines-requires c = search rules

pub returns-in_err-spec : goal.returns-in_err-spec
unfolding judge_run
returns-in_err-spec c = search rules

pub returns-in_err-jobs : goal.returns-in_err-jobs
unfolding judge_run
returns-in_err-jobs c = search rules

pub returns : goal.returns
unfolding judge_run
returns c = search rules
