use Rattle.std.proofs.Common.{◌<◌, ◌∙◌, ap, sym, subst, length}
use Rattle.ww_lock.specs.Acquiring.{HoldsOutside}
use Rattle.drm_gpu.specs.Passes.{GpuState}
use Rattle.drm_gpu.proofs.Claims.{first_claimed}
use Rattle.drm_gpu.proofs.Holders.{holds}
use Rattle.drm_gpu.proofs.locking.lock_first.Goals as goal

pub lock_slow-requires : goal.lock_slow-requires
lock_slow-requires g c = (
  subst (λ z. HoldsOutside z c.args.acquire.now) (sym (ap (λ (g : GpuState). g.home) c.gpu.view_is)) (holds c.args.gpu.now c.args.acquire.now c.requires.holding.0),
  subst (λ n. c.args.buffer < n) (sym (c.gpu.invariant.1 ∙ ap (λ (g : GpuState). length g.spec.buffers) c.gpu.view_is)) c.requires.buffer,
  c.requires.holding.2,
)

pub returns : goal.returns
returns g c =
    first_claimed c.args.gpu.now c.args.buffer c.args.acquire.now c.lock_slow.new.acquire c.requires.holding.0
    (subst (λ z. HoldsOutside z c.lock_slow.new.acquire) (ap (λ (g : GpuState). g.home) c.gpu.view_is) c.lock_slow.ensures.holds) c.requires.holding.2 (c.in-Ok.ensures {u = tt}).answers
