use Rattle.std.proofs.Common.{◌∙◌, ap}
use Rattle.ww_lock.specs.Acquiring.{view}
use Rattle.ww_lock.specs.Seats.{sees}
use Rattle.drm_gpu.specs.Passes.{pass_of}
use Rattle.drm_gpu.proofs.Chains.{pass_here}
use Rattle.drm_gpu.proofs.Holders.{ended}
use Rattle.drm_gpu.proofs.locking.release_and_end.Goals as goal

pub end-requires : goal.end-requires
end-requires c = (c.release_all.ensures.holding.1, c.release_all.ensures.holding.0.seat.sits.inside)

pub invariant_of-result : goal.invariant_of-result
invariant_of-result c =
    let gpu = c.args.gpu.now in
    let held = c.release_all.ensures.holding in
    pass_here gpu c.end.result (ended gpu c.release_all.new.acquire c.end.result held.0 held.1 c.end.ensures.seat)

pub returns : goal.returns
returns c =
    let a = c.release_all.new.acquire in
    ap (λ s. pass_of s.place.table_id (sees s)) c.end.ensures.seat ∙ (ap (λ h. pass_of h (view a)) c.release_all.ensures.holding.0.seat.sits.seated ∙ c.release_all.ensures.pass)
