use Rattle.std.proofs.Common.{◌≡◌, ◌<◌, ◌≤◌, ◌∙◌, sym, subst, length, get_or, Some, slice_get, arith}
use Rattle.std.proofs.lemmas.Option.{slice_get-get_or}
use Rattle.drm_fence.specs.Fences.{has_ended_at}
use Rattle.drm_state.specs.Uses.{HasUse}
use Rattle.drm_core.proofs.RoomFacts.{drop_next}
use Rattle.drm_core.proofs.UsesAdded.{next_is_untouched, uses_of_next, uses_of_all}
use Rattle.drm_core.proofs.planning.add_uses.Goals as goal

pub bounds-reservations-number : goal.bounds-reservations-number
bounds-reservations-number c =
    let declared = c.declared-declared.result.now in
    let i = c.loop-use_of.use_of-index in
    let d = c.use_of-item.result in
    let at = subst (λ ds. slice_get ds i ≡ Some d) c.declared-declared.ensures (drop_next declared i d c.use_of-item.is c.loop-use_of-test.true).1 in
    let there = c.requires.there i d at in
    let same = c.loop-use_of.auto.reservations in
    let place = c.number.ensures in
    omega (arith, there, same, place)

pub add_use-requires-clause-room : goal.add_use-requires-clause-room
add_use-requires-clause-room c usage is =
    let declared = c.declared-declared.result.now in
    let i = c.loop-use_of.use_of-index in
    let d = c.use_of-item.result in
    let rs = c.loop-use_of.reservations in
    let at = subst (λ ds. slice_get ds i ≡ Some d) c.declared-declared.ensures (drop_next declared i d c.use_of-item.is c.loop-use_of-test.true).1 in
    let there = c.requires.there i d at in
    let same = c.loop-use_of.auto.reservations in
    let place = c.number.ensures in
    let lt : c.number.result < length rs = omega (arith, there, same, place) in
    let old = get_or rs c.number.result c.index-reservations-number.result in
    let at_rs = slice_get-get_or rs c.number.result c.index-reservations-number.result lt in
    let untouched = next_is_untouched (has_ended_at c.args.timeline.now.list) c.args.fence c.args.job.now i c.number.result d c.args.reservations.now rs c.requires.once at place c.loop-use_of.invariant in
    c.requires.room d.0 old usage (subst (λ k. slice_get c.args.reservations.now k ≡ Some old) place (sym untouched ∙ at_rs)) is

pub loop-use_of-preserved : goal.loop-use_of-preserved
loop-use_of-preserved c =
    let declared = c.declared-declared.result.now in
    let i = c.loop-use_of.use_of-index in
    let d = c.use_of-item.result in
    let rs = c.loop-use_of.reservations in
    let ended = has_ended_at c.args.timeline.now.list in
    let at = subst (λ ds. slice_get ds i ≡ Some d) c.declared-declared.ensures (drop_next declared i d c.use_of-item.is c.loop-use_of-test.true).1 in
    let there = c.requires.there i d at in
    let same = c.loop-use_of.auto.reservations in
    let place = c.number.ensures in
    let lt : c.number.result < length rs = omega (arith, there, same, place) in
    let old = get_or rs c.number.result c.index-reservations-number.result in
    let at_rs = slice_get-get_or rs c.number.result c.index-reservations-number.result lt in
    let has = subst (λ k. HasUse ended c.args.fence c.args.job.now k old c.add_use.new.resv) (sym place) (c.add_use.ensures.used, c.add_use.ensures.unused) in
    uses_of_next ended c.args.fence c.args.job.now i c.number.result d c.args.reservations.now rs old c.add_use.new.resv c.requires.once at place at_rs has c.loop-use_of.invariant

pub returns : goal.returns
returns c =
    let all : length c.declared-declared.result.now ≤ c.loop-use_of.use_of-index = let end = c.loop-use_of-test.false in omega (arith, end) in
    uses_of_all (has_ended_at c.args.timeline.now.list) c.args.fence c.args.job.now c.loop-use_of.use_of-index c.args.reservations.now c.loop-use_of.reservations
    (subst (λ ds. length ds ≤ c.loop-use_of.use_of-index) c.declared-declared.ensures all) c.loop-use_of.auto.reservations c.loop-use_of.invariant
