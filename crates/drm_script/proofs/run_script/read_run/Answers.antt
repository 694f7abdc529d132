use Rattle.drm_script.proofs.RunReaders.{run_found, run_only, run_fits, run_stands}
use Rattle.drm_script.proofs.run_script.read_run.Goals as goal

pub returns-clause-found : goal.returns-clause-found
returns-clause-found c = run_found c.args.text.now c.read_text.result c.read_text.ensures

pub returns-clause-only : goal.returns-clause-only
returns-clause-only c = run_only c.args.text.now c.read_text.result c.read_text.ensures

pub returns-clause-fits : goal.returns-clause-fits
returns-clause-fits c = run_fits c.args.text.now c.read_text.result (run_found c.args.text.now c.read_text.result c.read_text.ensures)

pub returns-clause-runnable : goal.returns-clause-runnable
returns-clause-runnable c = run_stands c.args.text.now c.read_text.result (run_found c.args.text.now c.read_text.result c.read_text.ensures)
