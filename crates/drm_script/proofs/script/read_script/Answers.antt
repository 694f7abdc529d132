use Rattle.drm_script.proofs.ScriptReaders.{script_found, script_only}
use Rattle.drm_script.proofs.script.read_script.Goals as goal

pub returns-clause-found : goal.returns-clause-found
returns-clause-found c = script_found c.args.text.now c.read_text.result c.read_text.ensures.value

pub returns-clause-only : goal.returns-clause-only
returns-clause-only c = script_only c.args.text.now c.read_text.result c.read_text.ensures.value
