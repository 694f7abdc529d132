use Rattle.std.proofs.Common.{◌<◌, ◌∙◌, false, ap, sym, subst}
use Rattle.ww_lock.specs.Seats.{sees}
use Rattle.drm_gpu.specs.Passes.{GpuState, Seeing}
use Rattle.drm_gpu.proofs.Chains.{knows_same}
use Rattle.drm_gpu.proofs.Looking.{looked}
use Rattle.drm_gpu.proofs.gpu.Gpu.look_at.Goals as goal

pub look-requires : goal.look-requires
look-requires c = (
  c.requires.seat.sits.seated ∙ sym (ap (λ (g : GpuState). g.home) c.self.view_is),
  subst (λ n. c.args.fence < n) (sym (c.self.invariant.0 ∙ ap (λ (g : GpuState). g.spec.max_jobs) c.self.view_is)) c.requires.fence,
)

pub returns-clause-seat : goal.returns-clause-seat
returns-clause-seat c =
    let k = c.requires.seat in
    let e = c.look.ensures in
    record {
      sits = e.sits false c.args.self.now.home k.sits;
      knows = knows_same c.args.self.now.spec (sees c.args.seat.now) (sees c.look.new.seat) k.knows (ap (λ (z : Seeing). z.pivot) e.view);
      owed = e.owed k.owed;
    }

pub returns-clause-holds : goal.returns-clause-holds
returns-clause-holds c = (c.look.ensures.same, ap (λ (z : Seeing). z.task) c.look.ensures.view)

pub returns-clause-look : goal.returns-clause-look
returns-clause-look c =
    let e = c.look.ensures in (
      e.shown.0,
      looked c.args.fence c.look.result e.shown.0 c.args.self.now.home c.args.self.now.spec (sees c.args.seat.now) (sees c.look.new.seat) c.requires.seat.knows e.view e.shown.1 e.shown.2,
      e.shown.2,
    )
