use Rattle.std.proofs.Common.{rules}
use Rattle.drm_script.specs.Script.{judge_script}
use Rattle.drm_script.proofs.script.read_text.Goals as goal

pub new-lines-requires : goal.new-lines-requires
new-lines-requires c = search rules

pub returns-in_err-spec-clause-value : goal.returns-in_err-spec-clause-value
unfolding judge_script
returns-in_err-spec-clause-value c = search rules

pub returns-in_err-events-clause-value : goal.returns-in_err-events-clause-value
unfolding judge_script
returns-in_err-events-clause-value c = search rules

pub returns-clause-value : goal.returns-clause-value
unfolding judge_script
returns-clause-value c = search rules
