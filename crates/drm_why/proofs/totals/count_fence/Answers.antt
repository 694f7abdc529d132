use Rattle.std.proofs.Common.{arith, length, refl, sym}
use Rattle.std.proofs.lemmas.Option.{slice_get_read}
use Rattle.drm_lists.proofs.Places.{at_index}
use Rattle.drm_why.proofs.Counting.{none_counted, one_counted, past_counted}
use Rattle.drm_why.proofs.totals.count_fence.Goals as goal

pub returns-in_default : goal.returns-in_default
returns-in_default c =
    let row = c.index-rows-number.result in
    let at = at_index c.args.rows.now c.args.number row c.index-rows-number.is c.requires.there in
    none_counted c.args.ring c.args.rows.now c.args.number row c.args.totals.now.items at (sym c.in_default.ensures) c.requires.counted

pub returns-then-place-len : goal.returns-then-place-len
returns-then-place-len c =
    let row = c.index-rows-number.result in
    let at = at_index c.args.rows.now c.args.number row c.index-rows-number.is c.requires.there in
    let totals = c.args.totals.now.items in
    let there = slice_get_read totals (length totals) c.in-Some.fence c.index.result.now refl (omega (arith, c.if-place-len.true, c.len.ensures)) c.index.ensures in
    one_counted c.args.ring c.args.rows.now c.args.number c.in-Some.fence row totals c.index.result.now c.counted-total.result at (sym c.in-Some.ensures) there
    c.counted-total.ensures c.requires.counted

pub returns-else-place-len : goal.returns-else-place-len
returns-else-place-len c =
    let row = c.index-rows-number.result in
    let at = at_index c.args.rows.now c.args.number row c.index-rows-number.is c.requires.there in
    past_counted c.args.ring c.args.rows.now c.args.number c.in-Some.fence row c.args.totals.now.items at (sym c.in-Some.ensures)
    (omega (arith, c.if-place-len.false, c.len.ensures)) c.requires.counted
