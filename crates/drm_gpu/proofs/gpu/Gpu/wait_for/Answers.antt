use Rattle.std.proofs.Common.{refl}
use Rattle.ww_lock.specs.Seats.{sees}
use Rattle.drm_gpu.proofs.Called.{found_back, same_trans, waited_on, waits_not}
use Rattle.drm_gpu.proofs.Chains.{holds_trans}
use Rattle.drm_gpu.proofs.gpu.Gpu.wait_for.Goals as goal

pub loop-init : goal.loop-init
loop-init g c = record { seat = c.requires.seat; waited = waits_not (sees c.args.seat.now); holds = ((refl, refl, refl), refl); same = (refl, refl) }

pub loop-preserved : goal.loop-preserved
loop-preserved g c =
    let i = c.loop.invariant in
    let t = c.try_enter.new.seat in
    record {
      seat = c.in_default.ensures.entered.0;
      waited = waited_on (sees c.args.seat.now) (sees c.loop.seat) (sees t) i.waited i.same c.in_default.ensures.entered.1;
      holds = holds_trans c.args.seat.now c.loop.seat t i.holds c.try_enter.ensures.holds;
      same = same_trans (sees c.args.seat.now) (sees c.loop.seat) (sees t) i.same c.try_enter.ensures.same;
    }

pub returns-in-Some-try_enter-clause-found : goal.returns-in-Some-try_enter-clause-found
returns-in-Some-try_enter-clause-found g c =
    found_back c.in-Some-try_enter.device (sees c.args.seat.now) (sees c.loop.seat) c.loop.invariant.waited c.loop.invariant.same c.in-Some-try_enter.ensures.entered.1

pub returns-in-Some-try_enter-clause-holds : goal.returns-in-Some-try_enter-clause-holds
returns-in-Some-try_enter-clause-holds g c = holds_trans c.args.seat.now c.loop.seat c.try_enter.new.seat c.loop.invariant.holds c.try_enter.ensures.holds

pub returns-in-Some-try_enter-clause-same : goal.returns-in-Some-try_enter-clause-same
returns-in-Some-try_enter-clause-same g c = same_trans (sees c.args.seat.now) (sees c.loop.seat) (sees c.try_enter.new.seat) c.loop.invariant.same c.try_enter.ensures.same
