use Rattle.std.proofs.Common.{◌≡◌, ◌+◌, ◌-◌, ◌≤◌, ◌==◌, drop, length, not}
use Rattle.std.specs.List.{position_or_len}
use Rattle.drm_trace.proofs.search.count_spaces.Given as goal

abbrev pub invariant-loop-end : goal.invariant-loop-end
invariant-loop-end l = record {
  within : l.end ≤ length l.bytes;
  so_far : l.end + position_or_len (λ b. not (b == 32)) (drop l.end l.bytes) ≡ position_or_len (λ b. not (b == 32)) l.bytes;
}

abbrev pub decreases-loop-end : goal.decreases-loop-end
decreases-loop-end l = length l.bytes - l.end
