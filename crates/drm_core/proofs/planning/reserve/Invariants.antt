use Rattle.std.proofs.Common.{take}
use Rattle.drm_core.specs.Planning.{MoreRoom, HasRoomFor}
use Rattle.drm_core.proofs.planning.reserve.Given as goal

abbrev pub invariant-loop-use_of : goal.invariant-loop-use_of
invariant-loop-use_of l = record {
  more : MoreRoom l.initial.reservations l.reservations;
  room : HasRoomFor (take l.use_of-index l.declared) l.reservations;
}
