use Rattle.std.proofs.Common.{◌≡◌, ◌∙◌, ap, sym, subst}
use Rattle.ww_lock.specs.Acquiring.{HoldsOutside, view}
use Rattle.ww_lock.specs.Rule.{In}
use Rattle.ww_lock.specs.Steps.{without}
use Rattle.drm_state.specs.Held.{kept_of}
use Rattle.drm_gpu.specs.Passes.{GpuState, Seeing, pass_of}
use Rattle.drm_gpu.specs.Submissions.{Submission, submission_of}
use Rattle.drm_gpu.proofs.Claims.{parts}
use Rattle.drm_gpu.proofs.Holders.{has_at, released, kept_without}
use Rattle.drm_gpu.proofs.locking.Locking.release.Goals as goal

pub release-requires-clause-held : goal.release-requires-clause-held
release-requires-clause-held c =
    has_at c.args.buffer c.requires.0 c.self.inside.acquire.seat.held.items (subst (In (c.args.buffer, c.requires.0)) (sym (ap (λ (s : Submission). s.held) c.self.view_is)) c.requires.1)

pub release-requires-clause-fits : goal.release-requires-clause-fits
release-requires-clause-fits c x y i j p f = c.self.invariant.0.seat.owed c.args.buffer x y i j p f

pub invariant_of-self : goal.invariant_of-self
invariant_of-self c =
    let a = c.release.new.acquire in
    let e = c.release.ensures in (
      released c.self.inside.gpu.now c.args.buffer c.self.inside.acquire a c.self.invariant.0 (subst (λ z. HoldsOutside z a) (ap (λ (g : GpuState). g.home) c.gpu.view_is) e.holds) e.view e.held,
      e.same.1 ∙ c.self.invariant.1,
      c.self.invariant.2,
    )

pub returns : goal.returns
returns c =
    let home = c.self.inside.gpu.now.home in
    let job = c.self.inside.plan.job in
    let a = c.self.inside.acquire in
    let b = c.release.new.acquire in
    let e = c.release.ensures in
    subst (λ (s : Submission). submission_of home job b ≡ record s { held = without c.args.buffer s.held }) c.self.view_is
    (parts job (pass_of home (view b)) (pass_of home (view a)) b.ticket a.ticket (kept_of b.seat.held.items) (without c.args.buffer (kept_of a.seat.held.items))
    (ap (λ (v : Seeing). pass_of home v) e.view) e.same.0 (ap (λ hs. kept_of hs) e.held ∙ kept_without c.args.buffer a.seat.held.items))
