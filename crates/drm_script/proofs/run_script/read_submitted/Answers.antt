use Rattle.std.proofs.Common.{rules}
use Rattle.drm_script.proofs.run_script.read_submitted.Goals as goal

pub returns-in-Command-Submit : goal.returns-in-Command-Submit
returns-in-Command-Submit c = search rules
