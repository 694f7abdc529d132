use Rattle.std.proofs.Common.{◌≡◌, ◌+◌, ◌-◌, ◌≤◌, ◌==◌, drop, length}
use Rattle.std.specs.List.{position_or_len}
use Rattle.drm_conform.proofs.asking.sign_place.Given as goal

abbrev pub invariant-loop-at : goal.invariant-loop-at
invariant-loop-at l = record {
  within : l.at ≤ length l.text;
  so_far : l.at + position_or_len (λ b. b == 61) (drop l.at l.text) ≡ position_or_len (λ b. b == 61) l.text;
}

abbrev pub decreases-loop-at : goal.decreases-loop-at
decreases-loop-at l = length l.text - l.at
