use Rattle.std.proofs.Common.{arith}
use Rattle.std.proofs.lemmas.Grind.{common_steps}
use Rattle.drm_script_writer.proofs.header.put_entity_rings.Goals as goal

pub returns-in_ok-put_decimal-in-len1-up-clause-value : goal.returns-in_ok-put_decimal-in-len1-up-clause-value
returns-in_ok-put_decimal-in-len1-up-clause-value c = grind (arith, common_steps)

pub returns-in_ok-put_decimal-in-len1-up-clause-fits : goal.returns-in_ok-put_decimal-in-len1-up-clause-fits
returns-in_ok-put_decimal-in-len1-up-clause-fits c = grind (arith, common_steps)
