use Rattle.std.proofs.Common.{◌<◌, sym, subst, length}
use Rattle.drm_state.specs.Collected.{IsCollected}
use Rattle.drm_core.specs.Planning.{declared_kept}
use Rattle.drm_core.proofs.Collecting.{declared_below, holds_declared, fit_declared}
use Rattle.drm_core.proofs.Submitting.{resv_there}
use Rattle.drm_core.proofs.cores.CoreTable.collect.Goals as goal

pub collect-requires-clause-there : goal.collect-requires-clause-there
collect-requires-clause-there c k d at =
    let t = c.args.self.now in
    let below = declared_below c.jobs_are_the_sound_drafts.ensures t.device.state.spec c.args.job.now k d c.requires.job at in
    subst (λ rs. d.0 < length rs) (sym c.deref.ensures.value) (subst (λ n. d.0 < n) (sym c.requires.core.reservation_count) below)

pub returns : goal.returns
returns c =
    let t = c.args.self.now in
    let job = c.args.job.now in
    let rs = t.reservations.items in
    let held = declared_kept rs job.declared in
    let is : IsCollected job held c.collect.new.deps = subst (λ rs. IsCollected job (declared_kept rs job.declared) c.collect.new.deps) c.deref.ensures.value (c.collect.ensures t.device.state.spec c.requires.job) in
    let below = declared_below c.jobs_are_the_sound_drafts.ensures t.device.state.spec job in
    (c.collected_covers.ensures job held c.collect.new.deps (holds_declared rs job) is).in_each t.device.state c.requires.core.steady.device.lawful c.requires.job
    (fit_declared t.device.state.journal rs job.declared (λ k d at. resv_there t c.requires.core d.0 (below k d c.requires.job at)))
