use Rattle.std.proofs.Common.{◌∙◌, ap, subst}
use Rattle.ww_lock.specs.Seats.{IsIdle, sees}
use Rattle.drm_gpu.specs.Passes.{GpuState, PassState, Knows, Seated, last_of}
use Rattle.drm_gpu.proofs.Called.{joined_of}
use Rattle.drm_gpu.proofs.Chains.{idle_pass, idle_seated, knows_joined}
use Rattle.drm_gpu.proofs.gpu.Gpu.join.Goals as goal

pub invariant_of-result : goal.invariant_of-result
invariant_of-result c =
    let gpu = c.args.self.now in
    let v = sees c.one.inside.seat in
    let u = sees c.other.inside.seat in
    let kv : Knows gpu.spec (last_of v) v = subst (λ (z : GpuState). Knows z.spec (last_of v) v) (ap (λ (o : PassState). o.gpu) c.one.view_is ∙ c.requires.0) c.one.invariant.seated.knows in
    let ku : Knows gpu.spec (last_of u) u = subst (λ (z : GpuState). Knows z.spec (last_of u) u) (ap (λ (o : PassState). o.gpu) c.other.view_is ∙ c.requires.1) c.other.invariant.seated.knows in
    idle_pass _ gpu.spec c.join.result c.join.ensures.seat (knows_joined gpu.spec (last_of v) (last_of u) v u (sees c.join.result) kv ku c.join.ensures.view)

pub returns : goal.returns
returns c =
    let gpu = c.args.self.now in
    let v = sees c.one.inside.seat in
    let u = sees c.other.inside.seat in
    let kv : Knows gpu.spec (last_of v) v = subst (λ (z : GpuState). Knows z.spec (last_of v) v) (ap (λ (o : PassState). o.gpu) c.one.view_is ∙ c.requires.0) c.one.invariant.seated.knows in
    let ku : Knows gpu.spec (last_of u) u = subst (λ (z : GpuState). Knows z.spec (last_of u) u) (ap (λ (o : PassState). o.gpu) c.other.view_is ∙ c.requires.1) c.other.invariant.seated.knows in
    let out = subst (λ z. IsIdle z c.join.result) (ap (λ (g : GpuState). g.home) c.self.view_is) c.join.ensures.seat in
    let seat : Seated gpu c.join.result = idle_seated gpu c.join.result out (knows_joined gpu.spec (last_of v) (last_of u) v u (sees c.join.result) kv ku c.join.ensures.view) in
    joined_of gpu c.args.one c.args.other c.one.inside.seat.place.table_id c.other.inside.seat.place.table_id v u c.join.result c.one.view_is c.other.view_is c.requires.0 kv ku seat c.join.ensures.view
