use Rattle.std.proofs.Common.{arith}
use Rattle.std.proofs.lemmas.Grind.{common_steps}
use Rattle.drm_script_writer.specs.Headers.{text_of_header}
use Rattle.drm_script_writer.proofs.header.put_header.Goals as goal

pub returns-clause-value : goal.returns-clause-value
unfolding text_of_header
returns-clause-value c = grind (arith, common_steps)
