use Rattle.std.proofs.Common.{ap, sym, subst}
use Rattle.ww_lock.proofs.Lists.{now_last}
use Rattle.ww_lock.specs.Acquiring.{HoldsOutside}
use Rattle.ww_lock.specs.Rule.{In}
use Rattle.drm_gpu.specs.Passes.{GpuState}
use Rattle.drm_gpu.proofs.Claims.{held_already, numbers_in, off_told, on_already, on_claimed}
use Rattle.drm_gpu.proofs.locking.hold.Goals as goal

pub returns-in-Ok-clause-held : goal.returns-in-Ok-clause-held
returns-in-Ok-clause-held g c h =
    let t = (c.in-Ok.ensures {u = tt}).answers in
    numbers_in c.args.buffer t.3.0 c.lock.new.acquire.seat.held.items (subst (In (c.args.buffer, t.3.0)) (sym t.3.4) (now_last (c.args.buffer, t.3.0) c.args.acquire.now.seat.held.items))

pub returns-in-Ok-clause-locked : goal.returns-in-Ok-clause-locked
returns-in-Ok-clause-locked g c h job declared =
    on_claimed c.args.gpu.now job c.args.buffer c.args.acquire.now c.lock.new.acquire c.requires.holding.0
    (subst (λ z. HoldsOutside z c.lock.new.acquire) (ap (λ (g : GpuState). g.home) c.gpu.view_is) c.lock.ensures.holds) declared (c.in-Ok.ensures {u = tt}).answers

pub returns-in-Err-Already-clause-held : goal.returns-in-Err-Already-clause-held
returns-in-Err-Already-clause-held g c h =
    held_already c.args.buffer c.args.acquire.now c.lock.new.acquire (rw c.in-Err-Already.field-0-is at c.in-Err-Already.ensures.answers)

pub returns-in-Err-Already-clause-locked : goal.returns-in-Err-Already-clause-locked
returns-in-Err-Already-clause-locked g c h job declared =
    on_already c.args.gpu.now job c.args.buffer c.args.acquire.now c.lock.new.acquire c.requires.holding.0 (rw c.in-Err-Already.field-0-is at c.in-Err-Already.ensures.answers)

pub returns-in-Err-Backoff-clause-backs_off : goal.returns-in-Err-Backoff-clause-backs_off
returns-in-Err-Backoff-clause-backs_off g c h job declared =
    let t = rw c.in-Err-Backoff.field-0-is at c.in-Err-Backoff.ensures.answers in
    off_told c.args.gpu.now job c.args.buffer _ c.args.acquire.now c.lock.new.acquire c.requires.holding.0
    (subst (λ z. HoldsOutside z c.lock.new.acquire) (ap (λ (g : GpuState). g.home) c.gpu.view_is) c.lock.ensures.holds) declared t
