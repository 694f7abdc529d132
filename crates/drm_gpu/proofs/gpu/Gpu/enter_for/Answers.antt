use Rattle.ww_lock.specs.Seats.{sees}
use Rattle.drm_gpu.proofs.Called.{found_back, same_trans}
use Rattle.drm_gpu.proofs.Chains.{holds_trans}
use Rattle.drm_gpu.proofs.gpu.Gpu.enter_for.Goals as goal

pub returns-in-Some-clause-free : goal.returns-in-Some-clause-free
returns-in-Some-clause-free g c = c.in-Some.ensures.entered.3

pub returns-in-None-clause-found : goal.returns-in-None-clause-found
returns-in-None-clause-found g c =
    found_back c.wait_for.result (sees c.args.seat.now) (sees c.try_enter.new.seat) c.in-None.ensures.entered.1 c.try_enter.ensures.same c.wait_for.ensures.found

pub returns-in-None-clause-holds : goal.returns-in-None-clause-holds
returns-in-None-clause-holds g c = holds_trans c.args.seat.now c.try_enter.new.seat c.wait_for.new.seat c.try_enter.ensures.holds c.wait_for.ensures.holds

pub returns-in-None-clause-same : goal.returns-in-None-clause-same
returns-in-None-clause-same g c = same_trans (sees c.args.seat.now) (sees c.try_enter.new.seat) (sees c.wait_for.new.seat) c.try_enter.ensures.same c.wait_for.ensures.same
