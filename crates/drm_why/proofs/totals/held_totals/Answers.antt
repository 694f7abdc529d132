use Rattle.std.proofs.Common.{arith}
use Rattle.drm_why.proofs.Counting.{all_counted}
use Rattle.drm_why.proofs.totals.held_totals.Goals as goal

pub returns : goal.returns
returns c = all_counted c.args.ring c.args.rows.now c.loop-number.number c.loop-number.totals.items (omega (arith, c.loop-number-test.false)) c.loop-number.invariant
