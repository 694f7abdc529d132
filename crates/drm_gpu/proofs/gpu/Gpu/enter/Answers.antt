use Rattle.std.proofs.Common.{true, false, ap, sym, subst}
use Rattle.drm_state.specs.Held.{kept_of}
use Rattle.ww_lock.specs.Seats.{Sits, sees}
use Rattle.drm_gpu.specs.Passes.{Fitting, GpuState, Seeing, last_of, noted}
use Rattle.drm_gpu.proofs.Called.{is_found}
use Rattle.drm_gpu.proofs.Chains.{knows_entered, saw}
use Rattle.drm_gpu.proofs.Holders.{held_fits}
use Rattle.drm_gpu.proofs.gpu.Gpu.enter.Goals as goal

pub enter-requires : goal.enter-requires
enter-requires g c = subst (λ z. Sits false z c.args.seat.now) (sym (ap (λ (g : GpuState). g.home) c.self.view_is)) c.requires.sits

pub returns-clause-entered : goal.returns-clause-entered
returns-clause-entered g c =
    let v = sees c.args.seat.now in
    let k = c.requires.knows in
    let view = c.enter.ensures.view in
    record {
      sits = subst (λ z. Sits true z c.enter.new.seat) (ap (λ (g : GpuState). g.home) c.self.view_is) c.enter.ensures.sits;
      knows = knows_entered c.args.self.now.spec (last_of v) c.enter.result v (sees c.enter.new.seat) k (ap (λ (z : Seeing). z.pivot.seen) view) (ap (λ (z : Seeing). z.pivot.mine) view)
          (c.enter.ensures.later.grown (last_of v) (saw c.args.self.now.spec (last_of v) v k));
      fresh = ap (λ (z : Seeing). z.pivot.posted) view;
    }

pub returns-clause-found : goal.returns-clause-found
returns-clause-found g c = is_found c.args.self.now.spec (sees c.args.seat.now) c.enter.result c.requires.knows c.enter.ensures.later

pub returns-clause-fit : goal.returns-clause-fit
returns-clause-fit g c =
    subst (λ h. Fitting c.enter.result (kept_of h.items)) (sym c.enter.ensures.same.1) (held_fits c.args.seat.now c.enter.result c.requires.sits.keys c.requires.owed c.enter.ensures.fits)

pub returns-clause-busy : goal.returns-clause-busy
returns-clause-busy g c = c.enter.ensures.later.waits

pub returns-clause-holds : goal.returns-clause-holds
returns-clause-holds g c = (c.enter.ensures.same, ap (λ (z : Seeing). z.task) c.enter.ensures.view)

pub returns-clause-same : goal.returns-clause-same
returns-clause-same g c = (ap (λ (z : Seeing). z.pivot.mine) c.enter.ensures.view, ap noted c.enter.ensures.view)
