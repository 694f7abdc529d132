use Rattle.ww_lock.specs.Seats.{sees}
use Rattle.drm_gpu.specs.Passes.{HasWaited, HoldsOn, IsSameBut, Seated}
use Rattle.drm_gpu.proofs.gpu.Gpu.wait_for.Given as goal

-- the seat is outside still, and has only waited
abbrev pub invariant-loop : goal.invariant-loop
invariant-loop g l = record {
  seat : Seated l.fn.self l.seat;
  waited : HasWaited (sees l.fn.seat) (sees l.seat);
  holds : HoldsOn l.fn.seat l.seat;
  same : IsSameBut (sees l.fn.seat) (sees l.seat);
}
