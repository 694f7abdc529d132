use Rattle.std.proofs.Common.{◌∙◌, ap, subst}
use Rattle.ww_lock.specs.Acquiring.{HoldsOutside}
use Rattle.drm_gpu.specs.Passes.{GpuState}
use Rattle.drm_gpu.specs.Submissions.{Submission, TriesLock, submission_of}
use Rattle.drm_gpu.proofs.Claims.{tried, shows_tried}
use Rattle.drm_gpu.proofs.locking.Locking.try_lock.Goals as goal

pub invariant_of-self : goal.invariant_of-self
invariant_of-self c =
    let a = c.try_lock.new.acquire in
    let on = tried c.self.inside.gpu.now c.args.buffer c.self.inside.acquire a c.try_lock.result c.self.invariant.0
    (subst (λ z. HoldsOutside z a) (ap (λ (g : GpuState). g.home) c.gpu.view_is) c.try_lock.ensures.holds) c.try_lock.ensures.answers in
    (on.0, on.1 ∙ c.self.invariant.1, c.self.invariant.2)

pub returns : goal.returns
returns c =
    let gpu = c.self.inside.gpu.now in
    let job = c.self.inside.plan.job in
    subst (λ (s : Submission). TriesLock c.args.buffer s (submission_of gpu.home job c.try_lock.new.acquire) c.try_lock.result) c.self.view_is
    (shows_tried gpu job c.args.buffer c.self.inside.acquire c.try_lock.new.acquire c.self.invariant.0 c.self.invariant.1 c.try_lock.result c.try_lock.ensures.answers)
