use Rattle.std.proofs.Common.{◌∙◌, sym}
use Rattle.drm_fence.specs.declared.phase.Phase.TheVariants.{Queued, Scheduled, Ended}
use Rattle.drm_reason.proofs.There.{job_there}
use Rattle.drm_reason.proofs.Told.{armed_told, none_told}
use Rattle.drm_reason.proofs.watch.Watch.look.Goals as goal

pub returns-in_default-clause-reason : goal.returns-in_default-clause-reason
returns-in_default-clause-reason c = sym (none_told c.args.device.now.state c.args.self.now.fence c.in_default.ensures.1)

pub queued-requires-clause-there : goal.queued-requires-clause-there
queued-requires-clause-there c =
    job_there c.args.device.now.state c.args.self.now.fence c.in-Ok.job.now c.facts.ensures.steady c.facts.ensures.limits c.in-Ok.ensures

pub pending-requires : goal.pending-requires
pending-requires c =
    (job_there c.args.device.now.state c.args.self.now.fence c.in-Ok.job.now c.facts.ensures.steady c.facts.ensures.limits c.in-Ok.ensures).ring

pub returns-in-Queued-clause-reason : goal.returns-in-Queued-clause-reason
returns-in-Queued-clause-reason c =
    c.queued.ensures.reason ∙ sym (armed_told c.args.device.now.state c.args.self.now.fence c.in-Ok.job.now Queued c.in-Ok.ensures c.in-Queued.is)

pub returns-in-Scheduled-clause-reason : goal.returns-in-Scheduled-clause-reason
returns-in-Scheduled-clause-reason c =
    c.pending.ensures ∙ sym (armed_told c.args.device.now.state c.args.self.now.fence c.in-Ok.job.now Scheduled c.in-Ok.ensures c.in-Scheduled.is)

pub returns-in-Ended-clause-reason : goal.returns-in-Ended-clause-reason
returns-in-Ended-clause-reason c =
    sym (armed_told c.args.device.now.state c.args.self.now.fence c.in-Ok.job.now (Ended c.in-Ended.outcome) c.in-Ok.ensures c.in-Ended.is)
