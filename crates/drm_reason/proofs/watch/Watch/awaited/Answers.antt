use Rattle.std.proofs.Common.{◌∙◌, ap, sym}
use Rattle.drm_fence.specs.declared.phase.Phase.TheVariants.{Queued, Scheduled}
use Rattle.drm_reason.specs.Awaited.{awaited_by}
use Rattle.drm_reason.proofs.Awaits.{pending_awaits}
use Rattle.drm_reason.proofs.There.{job_there}
use Rattle.drm_reason.proofs.Told.{armed_told, none_told}
use Rattle.drm_reason.proofs.watch.Watch.awaited.Goals as goal

pub returns-in_default-clause-awaited : goal.returns-in_default-clause-awaited
returns-in_default-clause-awaited c = sym (ap awaited_by (none_told c.args.device.now.state c.args.self.now.fence c.in_default.ensures.1))

pub queued_awaits-requires-clause-there : goal.queued_awaits-requires-clause-there
queued_awaits-requires-clause-there c =
    job_there c.args.device.now.state c.args.self.now.fence c.in-Ok.job.now c.facts.ensures.steady c.facts.ensures.limits c.in-Ok.ensures

pub returns-in-Queued-clause-awaited : goal.returns-in-Queued-clause-awaited
returns-in-Queued-clause-awaited c =
    c.queued_awaits.ensures.awaited
    ∙ sym (ap awaited_by (armed_told c.args.device.now.state c.args.self.now.fence c.in-Ok.job.now Queued c.in-Ok.ensures c.in-Queued.is))

pub returns-in-Scheduled-clause-awaited : goal.returns-in-Scheduled-clause-awaited
returns-in-Scheduled-clause-awaited c =
    pending_awaits c.args.device.now.state c.args.self.now.fence c.in-Ok.job.now
    ∙ sym (ap awaited_by (armed_told c.args.device.now.state c.args.self.now.fence c.in-Ok.job.now Scheduled c.in-Ok.ensures c.in-Scheduled.is))

pub returns-in-Ended-clause-awaited : goal.returns-in-Ended-clause-awaited
returns-in-Ended-clause-awaited c =
    sym (ap awaited_by (armed_told c.args.device.now.state c.args.self.now.fence c.in-Ok.job.now _ c.in-Ok.ensures c.in-Ended.is))
