use Rattle.std.proofs.Common.{◌≡◌, ◌∙◌, ap, subst, []}
use Rattle.ww_lock.specs.Acquiring.{view}
use Rattle.drm_state.specs.Held.{kept_of}
use Rattle.drm_gpu.specs.Passes.{pass_of}
use Rattle.drm_gpu.specs.Submissions.{Submission, submission_of}
use Rattle.drm_gpu.proofs.Claims.{parts}
use Rattle.drm_gpu.proofs.locking.Locking.release_all.Goals as goal

pub invariant_of-self : goal.invariant_of-self
invariant_of-self c = (c.release_all.ensures.holding.0, c.release_all.ensures.same.1 ∙ c.self.invariant.1, c.self.invariant.2)

pub returns : goal.returns
returns c =
    let home = c.self.inside.gpu.now.home in
    let job = c.self.inside.plan.job in
    let a = c.self.inside.acquire in
    let b = c.release_all.new.acquire in
    let e = c.release_all.ensures in
    subst (λ (s : Submission). submission_of home job b ≡ record s { held = [] }) c.self.view_is
    (parts job (pass_of home (view b)) (pass_of home (view a)) b.ticket a.ticket (kept_of b.seat.held.items) [] e.pass e.same.0 (ap (λ hs. kept_of hs) e.holding.1))
