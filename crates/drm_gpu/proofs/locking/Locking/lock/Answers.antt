use Rattle.std.proofs.Common.{◌∙◌, ap, subst}
use Rattle.ww_lock.specs.Acquiring.{HoldsOutside}
use Rattle.drm_gpu.specs.Passes.{GpuState}
use Rattle.drm_gpu.specs.Submissions.{Submission, Locks, submission_of}
use Rattle.drm_gpu.proofs.Claims.{locked, shows_locked}
use Rattle.drm_gpu.proofs.locking.Locking.lock.Goals as goal

pub invariant_of-self : goal.invariant_of-self
invariant_of-self g c =
    let a = c.lock.new.acquire in
    let on = locked c.self.inside.gpu.now c.args.buffer c.self.inside.acquire a c.lock.result c.self.invariant.0
    (subst (λ z. HoldsOutside z a) (ap (λ (g : GpuState). g.home) c.gpu.view_is) c.lock.ensures.holds) c.lock.ensures.answers in
    (on.0, on.1 ∙ c.self.invariant.1, c.self.invariant.2)

pub returns : goal.returns
returns g c =
    let gpu = c.self.inside.gpu.now in
    let job = c.self.inside.plan.job in
    subst (λ (s : Submission). Locks c.args.buffer s (submission_of gpu.home job c.lock.new.acquire) c.lock.result) c.self.view_is
    (shows_locked gpu job c.args.buffer c.self.inside.acquire c.lock.new.acquire c.self.invariant.0 c.self.invariant.1 c.lock.result c.lock.ensures.answers)
