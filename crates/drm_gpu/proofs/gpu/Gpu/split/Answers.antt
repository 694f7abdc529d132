use Rattle.std.proofs.Common.{ap}
use Rattle.ww_lock.specs.Seats.{sees}
use Rattle.drm_gpu.specs.Passes.{Seeing, last_of}
use Rattle.drm_gpu.proofs.Chains.{idle_pass, knows_same}
use Rattle.drm_gpu.proofs.gpu.Gpu.split.Goals as goal

pub invariant_of-result : goal.invariant_of-result
invariant_of-result c =
    let v = sees c.pass.inside.seat in
    let t = c.split-one.result.0 in
    idle_pass _ (last_of v).state.spec t c.split-one.ensures.left (knows_same (last_of v).state.spec v (sees t) c.pass.invariant.seated.knows (ap (λ (z : Seeing). z.pivot) c.split-one.ensures.views.0))
