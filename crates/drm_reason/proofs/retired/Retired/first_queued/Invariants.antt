use Rattle.drm_reason.proofs.RetiredJobs.{NoneQueuedBelow}
use Rattle.drm_reason.proofs.retired.Retired.first_queued.Given as goal

abbrev pub invariant-loop-number : goal.invariant-loop-number
invariant-loop-number l = NoneQueuedBelow l.device.state.journal l.ring l.number
