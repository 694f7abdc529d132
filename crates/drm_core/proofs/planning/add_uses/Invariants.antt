use Rattle.drm_fence.specs.Fences.{has_ended_at}
use Rattle.drm_core.proofs.UsesAdded.{UsesOfFirst}
use Rattle.drm_core.proofs.planning.add_uses.Given as goal

abbrev pub invariant-loop-use_of : goal.invariant-loop-use_of
invariant-loop-use_of l = UsesOfFirst (has_ended_at l.timeline.list) l.fence l.job l.use_of-index l.initial.reservations l.reservations
