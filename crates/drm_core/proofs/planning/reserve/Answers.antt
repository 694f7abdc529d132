use Rattle.std.proofs.Common.{◌∙◌, ◌<◌, length, get_or, arith}
use Rattle.std.proofs.lemmas.Option.{slice_get_within, slice_get-get_or}
use Rattle.drm_lists.proofs.Places.{get_take}
use Rattle.drm_core.proofs.RoomFacts.{more_trans, more_set, room_next, drop_next}
use Rattle.drm_core.proofs.planning.reserve.Goals as goal

pub loop-use_of-preserved : goal.loop-use_of-preserved
loop-use_of-preserved c =
    let i = c.loop-use_of.use_of-index in
    let x = c.use_of-item.result in
    let rs = c.loop-use_of.reservations in
    let there : x.0 < length c.args.reservations.now = c.requires i x (drop_next c.args.declared.now i x c.use_of-item.is c.loop-use_of-test.true).1 in
    let same = c.loop-use_of.auto.reservations in
    let place = c.number.ensures in
    let lt : c.number.result < length rs = omega (arith, there, same, place) in
    let old = get_or rs c.number.result c.index-reservations-number.result in
    let at = slice_get-get_or rs c.number.result c.index-reservations-number.result lt in
    record {
      more = more_trans _ _ _ c.loop-use_of.invariant.more (more_set rs c.number.result old c.take_room.new.resv at c.take_room.ensures.kept c.take_room.ensures.stays);
      room = room_next c.args.declared.now i c.number.result x rs old c.take_room.new.resv c.use_of-item.is c.loop-use_of-test.true place at
          c.take_room.ensures.stays c.in_ok-take_room.ensures.room c.loop-use_of.invariant.room;
    }

pub returns-clause-room : goal.returns-clause-room
returns-clause-room c k d r at at_r =
    let a = c.loop-use_of-test.false in
    let lt = slice_get_within c.args.declared.now k d at in
    let within : k < c.loop-use_of.use_of-index = omega (arith, a, lt) in
    c.loop-use_of.invariant.room k d r (get_take c.args.declared.now c.loop-use_of.use_of-index k within ∙ at) at_r
