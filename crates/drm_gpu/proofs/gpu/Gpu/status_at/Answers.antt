use Rattle.std.proofs.Common.{◌<◌, subst}
use Rattle.drm_gpu.specs.Passes.{GpuState}
use Rattle.drm_gpu.proofs.Built.{some_jobs}
use Rattle.drm_gpu.proofs.gpu.Gpu.status_at.Goals as goal

pub look_at-requires-clause-fence : goal.look_at-requires-clause-fence
look_at-requires-clause-fence c =
    subst (λ (g : GpuState). 0 < g.spec.max_jobs) c.self.view_is (some_jobs c.self.inside.board.table.shared.key.pivot.value.state.spec c.self.invariant.2)
