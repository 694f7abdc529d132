use Rattle.std.proofs.Common.{◌≡◌, drop}
use Rattle.drm_trace.specs.Bytes.{place_from}
use Rattle.drm_trace.proofs.search.place_of.Given as goal

abbrev pub invariant-loop-at : goal.invariant-loop-at
invariant-loop-at l = place_from l.mark l.at (drop l.at l.bytes) ≡ place_from l.mark 0 l.bytes
