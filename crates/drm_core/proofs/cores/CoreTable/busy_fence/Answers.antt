use Rattle.std.proofs.Common.{◌∙◌, ap}
use Rattle.drm_types.specs.declared.access.Usage.TheVariants as usage
use Rattle.drm_resv.specs.Active.{least_active}
use Rattle.drm_core.proofs.DeviceFacts.{ended_alike}
use Rattle.drm_core.proofs.cores.CoreTable.busy_fence.Goals as goal

pub returns : goal.returns
returns c =
    let d = c.args.self.now.device.state in
    c.least_active.ensures ∙ ap (λ ended. least_active ended usage.Write c.args.resv.now.kept.entries) (ended_alike d.journal c.fences.result.now.list c.fences.ensures)
