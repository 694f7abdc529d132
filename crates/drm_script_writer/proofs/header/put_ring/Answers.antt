use Rattle.std.proofs.Common.{rules, arith}
use Rattle.std.proofs.lemmas.Grind.{common_steps}
use Rattle.drm_script_writer.proofs.header.put_ring.Goals as goal

pub returns-in_err-put_numbers-clause-fits : goal.returns-in_err-put_numbers-clause-fits
returns-in_err-put_numbers-clause-fits c = search rules

pub returns-in_err-push-clause-fits : goal.returns-in_err-push-clause-fits
returns-in_err-push-clause-fits c = search rules

pub returns-clause-value : goal.returns-clause-value
returns-clause-value c = grind (arith, common_steps)

pub returns-clause-fits : goal.returns-clause-fits
returns-clause-fits c = search rules
