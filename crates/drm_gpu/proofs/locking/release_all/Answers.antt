use Rattle.std.proofs.Common.{◌<◌, ◌∙◌, ap, sym, subst, length, slice_index_or}
use Rattle.ww_lock.specs.Acquiring.{HoldsOutside}
use Rattle.ww_lock.specs.Held.{HasAt}
use Rattle.drm_gpu.specs.Passes.{GpuState, Seeing, pass_of}
use Rattle.drm_gpu.proofs.Holders.{first_at, released}
use Rattle.drm_gpu.proofs.locking.release_all.Goals as goal

pub release-requires-clause-held : goal.release-requires-clause-held
release-requires-clause-held c =
    let xs = c.loop-gpu.acquire.seat.held.items in (
      0,
      subst (λ l. HasAt (slice_index_or l 0 c.index-held-0.result).0 0 xs) (sym c.held-in-loop-gpu.ensures)
          (first_at xs c.index-held-0.result (subst (λ l. 0 < length l) c.held.ensures c.loop-gpu-test.true)),
    )

pub release-requires-clause-fits : goal.release-requires-clause-fits
release-requires-clause-fits c x y i j p f = c.loop-gpu.invariant.holding.seat.owed (slice_index_or c.held-in-loop-gpu.result.now 0 c.index-held-0.result).0 x y i j p f

pub loop-gpu-preserved : goal.loop-gpu-preserved
loop-gpu-preserved c =
    let gpu = c.args.gpu.now in
    let i = c.loop-gpu.invariant in
    let e = c.release.ensures in
    record {
      holding = released gpu (slice_index_or c.held-in-loop-gpu.result.now 0 c.index-held-0.result).0 c.loop-gpu.acquire c.release.new.acquire i.holding
          (subst (λ z. HoldsOutside z c.release.new.acquire) (ap (λ (g : GpuState). g.home) c.gpu.view_is) e.holds) e.view e.held;
      ticket = e.same.0 ∙ i.ticket;
      sealed = e.same.1 ∙ i.sealed;
      pass = ap (λ (v : Seeing). pass_of gpu.home v) e.view ∙ i.pass;
    }
