use Rattle.std.proofs.Common.{◌∙◌, ap}
use Rattle.drm_types.specs.declared.access.Usage.TheVariants as usage
use Rattle.drm_resv.specs.Active.{least_active}
use Rattle.drm_state.proofs.Alike.{ended_alike}
use Rattle.drm_table.proofs.table.Table.busy_fence.Goals as goal

pub returns : goal.returns
returns c =
    let t = c.args.self.now in
    c.least_active.ensures ∙ ap (λ ended. least_active ended usage.Write c.args.resv.now.kept.entries) (ended_alike t.journal.items t.fences.list c.requires)
