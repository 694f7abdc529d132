use Rattle.std.proofs.Common.{ℕ, ◌+◌, arith, subst, sym}
use Rattle.drm_lists.proofs.Places.{at_index}
use Rattle.drm_why.proofs.Changed.{ChangesOn, changed_on, changes_end}
use Rattle.drm_why.proofs.seeing.changes.Goals as goal

pub loop-place-preserved : goal.loop-place-preserved
loop-place-preserved c =
    let seens = c.args.seens.now in
    let place = c.loop-place.place in
    let seen = c.index-seens-place.result in
    let at = at_index seens place seen c.index-seens-place.is (omega (arith, c.loop-place-test.true)) in
    subst (λ (clock : ℕ). ChangesOn seens seen.reason (place + 1) clock c.add_change.new.changes.items) (sym c.clock_after-clock.ensures)
    (changed_on seens c.loop-place.before place c.loop-place.clock seen c.loop-place.changes.items c.add_change.new.changes.items at c.in_ok-add_change.ensures
    c.loop-place.invariant)

pub returns : goal.returns
returns c =
    changes_end c.args.seens.now c.loop-place.before c.loop-place.place c.loop-place.clock c.loop-place.changes.items
    (omega (arith, c.loop-place-test.false)) c.loop-place.invariant
