use Rattle.std.proofs.Common.{arith}
use Rattle.drm_lists.proofs.Places.{at_index}
use Rattle.drm_why.specs.Totals.{total_of}
use Rattle.drm_why.proofs.Most.{total_ends, total_more}
use Rattle.drm_why.proofs.totals.total_for.Goals as goal

pub loop-number-preserved : goal.loop-number-preserved
loop-number-preserved c =
    let rows = c.args.rows.now in
    let number = c.loop-number.number in
    let row = c.index-rows-number.result in
    let at = at_index rows number row c.index-rows-number.is (omega (arith, c.loop-number-test.true)) in
    total_more c.args.ring c.args.kind rows number row c.loop-number.total c.counted-total.result (total_of c.args.ring c.args.kind rows) at c.counted-total.ensures
    c.loop-number.invariant

pub returns : goal.returns
returns c =
    total_ends c.args.ring c.args.kind c.args.rows.now c.loop-number.number c.loop-number.total (total_of c.args.ring c.args.kind c.args.rows.now)
    (omega (arith, c.loop-number-test.false)) c.loop-number.invariant
