use Rattle.std.proofs.Common.{◌≡◌, ◌+◌, ◌-◌, ◌≤◌, drop, length}
use Rattle.std.specs.List.{position_or_len}
use Rattle.std.specs.Str.{bytes_eq}
use Rattle.drm_trace.proofs.log.place_of_ring.Given as goal

abbrev pub invariant-loop-at : goal.invariant-loop-at
invariant-loop-at l = record {
  within : l.at ≤ length l.rings;
  so_far : l.at + position_or_len (λ met. bytes_eq met l.name) (drop l.at l.rings) ≡ position_or_len (λ met. bytes_eq met l.name) l.rings;
}

abbrev pub decreases-loop-at : goal.decreases-loop-at
decreases-loop-at l = length l.rings - l.at
