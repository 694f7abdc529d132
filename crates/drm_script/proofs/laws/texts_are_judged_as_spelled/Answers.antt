use Rattle.drm_script.proofs.RunReaders.{run_again, run_takes}
use Rattle.drm_script.proofs.ScriptReaders.{script_again, script_takes}
use Rattle.drm_script.proofs.laws.texts_are_judged_as_spelled.Goals as goal

pub returns-clause-scripts : goal.returns-clause-scripts
returns-clause-scripts c = λ text x. (script_takes text x, script_again text x)

pub returns-clause-runs : goal.returns-clause-runs
returns-clause-runs c = λ text x. (run_takes text x, run_again text x)
