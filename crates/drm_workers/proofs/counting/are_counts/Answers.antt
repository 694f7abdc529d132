use Rattle.std.proofs.Common.{arith}
use Rattle.std.proofs.lemmas.Grind.{common_steps}
use Rattle.std.proofs.lemmas.Option.{gets}
use Rattle.drm_workers.proofs.counting.are_counts.Goals as goal

pub loop-ring-preserved : goal.loop-ring-preserved
loop-ring-preserved c = grind (arith, common_steps)

pub returns : goal.returns
returns c = grind (arith, common_steps, gets)
