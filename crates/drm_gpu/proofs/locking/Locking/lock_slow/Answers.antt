use Rattle.std.proofs.Common.{◌<◌, ◌∙◌, ap, sym, subst, length}
use Rattle.ww_lock.specs.Acquiring.{HoldsOutside}
use Rattle.drm_types.specs.declared.spec.DeviceSpec.{DeviceSpec}
use Rattle.drm_gpu.specs.Passes.{GpuState}
use Rattle.drm_gpu.specs.Submissions.{Submission, Claims, submission_of}
use Rattle.drm_gpu.proofs.Claims.{claimed, shows_claimed, kept_none}
use Rattle.drm_gpu.proofs.Holders.{holds}
use Rattle.drm_gpu.proofs.locking.Locking.lock_slow.Goals as goal

pub lock_slow-requires : goal.lock_slow-requires
lock_slow-requires g c =
    let k = c.self.invariant.0 in (
      subst (λ z. HoldsOutside z c.self.inside.acquire) (sym (ap (λ (g : GpuState). g.home) c.gpu.view_is)) (holds c.self.inside.gpu.now c.self.inside.acquire k),
      subst (λ n. c.args.buffer < n) (sym (c.gpu.invariant.1 ∙ ap (λ (g : GpuState). length g.spec.buffers) c.gpu.view_is))
          (subst (λ (s : DeviceSpec). c.args.buffer < length s.buffers) (ap (λ (s : Submission). s.pass.gpu.spec) (sym c.self.view_is) ∙ k.seat.knows.described) c.requires.0),
      kept_none c.self.inside.acquire.seat.held.items (ap (λ (s : Submission). s.held) c.self.view_is ∙ c.requires.1),
    )

pub invariant_of-self : goal.invariant_of-self
invariant_of-self g c =
    let a = c.lock_slow.new.acquire in
    let on = claimed c.self.inside.gpu.now c.args.buffer c.self.inside.acquire a c.self.invariant.0
    (subst (λ z. HoldsOutside z a) (ap (λ (g : GpuState). g.home) c.gpu.view_is) c.lock_slow.ensures.holds) (c.in-Ok.ensures {u = tt}).answers in
    (on.0, on.1 ∙ c.self.invariant.1, c.self.invariant.2)

pub returns : goal.returns
returns g c =
    let gpu = c.self.inside.gpu.now in
    let job = c.self.inside.plan.job in
    subst (λ (s : Submission). Claims c.args.buffer s (submission_of gpu.home job c.lock_slow.new.acquire)) c.self.view_is
    (shows_claimed gpu job c.args.buffer c.self.inside.acquire c.lock_slow.new.acquire c.self.invariant.0 c.self.invariant.1 (c.in-Ok.ensures {u = tt}).answers)
