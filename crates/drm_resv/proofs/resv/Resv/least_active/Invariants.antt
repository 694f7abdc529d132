use Rattle.std.proofs.Common.{◌≡◌, drop}
use Rattle.drm_fence.specs.Fences.{has_ended_at}
use Rattle.drm_resv.specs.Active.{least_active}
use Rattle.drm_resv.proofs.ActiveIs.{joined}
use Rattle.drm_resv.proofs.resv.Resv.least_active.Given as goal

abbrev pub invariant-loop-entry : goal.invariant-loop-entry
invariant-loop-entry l =
    joined l.found (least_active (has_ended_at l.timeline.list) l.usage (drop l.entry-index l.entry-items)) ≡ least_active (has_ended_at l.timeline.list) l.usage l.entry-items
