use Rattle.std.proofs.Common.{subst, sym}
use Rattle.ww_lock.specs.Seats.{sees}
use Rattle.drm_state.specs.Held.{kept_of}
use Rattle.drm_gpu.specs.Passes.{Fitting}
use Rattle.drm_gpu.proofs.Called.{same_trans, waited}
use Rattle.drm_gpu.proofs.Chains.{holds_trans}
use Rattle.drm_gpu.proofs.gpu.Gpu.try_enter.Goals as goal

pub leave_as_found-requires-clause-fit : goal.leave_as_found-requires-clause-fit
leave_as_found-requires-clause-fit g c = subst (λ d. Fitting d (kept_of c.enter-device.new.seat.held.items)) (sym c.of-found.ensures) c.enter-device.ensures.fit

pub returns-clause-entered : goal.returns-clause-entered
returns-clause-entered g c = (c.leave_as_found.ensures.seat.0, waited c.enter-device.result (sees c.args.seat.now) (sees c.leave_as_found.new.seat) c.enter-device.ensures.found c.leave_as_found.ensures.seat.1)

pub returns-clause-holds : goal.returns-clause-holds
returns-clause-holds g c = holds_trans c.args.seat.now c.enter-device.new.seat c.leave_as_found.new.seat c.enter-device.ensures.holds c.leave_as_found.ensures.holds

pub returns-clause-same : goal.returns-clause-same
returns-clause-same g c = same_trans (sees c.args.seat.now) (sees c.enter-device.new.seat) (sees c.leave_as_found.new.seat) c.enter-device.ensures.same c.leave_as_found.ensures.same
