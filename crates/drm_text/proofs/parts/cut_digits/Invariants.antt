use Rattle.std.proofs.Common.{◌≡◌, ◌+◌, ◌-◌, ◌≤◌, ◌==◌, Some, drop, take, length}
use Rattle.std.specs.List.{position_or_len}
use Rattle.drm_text.specs.Number.{with_digits, digits_up_to}
use Rattle.drm_text.proofs.parts.cut_digits.Given as goal

abbrev pub invariant-loop-end : goal.invariant-loop-end
invariant-loop-end l =
    (l.end ≤ length l.bytes) × (l.end + position_or_len (λ b. b == l.separator) (drop l.end l.bytes) ≡ position_or_len (λ b. b == l.separator) l.bytes)
    × (with_digits l.most (Some l.value) (take (position_or_len (λ b. b == l.separator) (drop l.end l.bytes)) (drop l.end l.bytes))
    ≡ digits_up_to l.most (take (position_or_len (λ b. b == l.separator) l.bytes) l.bytes))

abbrev pub decreases-loop-end : goal.decreases-loop-end
decreases-loop-end l = length l.bytes - l.end
