use Rattle.std.proofs.Common.{◌≡◌, ◌∙◌, ap, sym, subst}
use Rattle.ww_lock.specs.Seats.{sees}
use Rattle.drm_gpu.specs.Passes.{GpuState, PassState, pass_of}
use Rattle.drm_gpu.specs.Status.{AnswersStatus}
use Rattle.drm_gpu.proofs.Chains.{pass_here, pass_on}
use Rattle.drm_gpu.proofs.gpu.Gpu.status.Goals as goal

pub invariant_of-pass : goal.invariant_of-pass
invariant_of-pass c =
    let r = c.pass.inside.seat in
    let t = c.status_at.new.seat in
    pass_here c.args.self.now t (pass_on c.args.self.now r t c.pass.invariant.none c.pass.invariant.idle c.status_at.ensures.holds c.status_at.ensures.seat)

pub returns : goal.returns
returns c =
    let gpu = c.args.self.now in
    let v = sees c.pass.inside.seat in
    let t = c.status_at.new.seat in
    let at = ap (λ (g : GpuState). g.home) (ap (λ (o : PassState). o.gpu) c.pass.view_is ∙ c.requires) in
    let old : pass_of gpu.home v ≡ c.args.pass.now = ap (λ h. pass_of h v) (sym at) ∙ c.pass.view_is in
    subst (λ h. AnswersStatus gpu.spec.max_jobs c.args.fence c.status_at.result c.args.pass.now (pass_of h (sees t))) (sym c.status_at.ensures.seat.sits.seated)
    (subst (λ o. AnswersStatus gpu.spec.max_jobs c.args.fence c.status_at.result o (pass_of gpu.home (sees t))) old c.status_at.ensures.status)
