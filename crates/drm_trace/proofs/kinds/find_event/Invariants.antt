use Rattle.std.proofs.Common.{◌≡◌, drop}
use Rattle.drm_trace.specs.Kinds.{event_from}
use Rattle.drm_trace.proofs.kinds.find_event.Given as goal

abbrev pub invariant-loop-at : goal.invariant-loop-at
invariant-loop-at l = event_from l.at (drop l.at l.bytes) ≡ event_from 0 l.bytes
