use Rattle.std.proofs.Common.{◌≡◌, Some, drop}
use Rattle.drm_text.specs.Number.{with_digits, digits_up_to}
use Rattle.drm_text.proofs.number.read_digits.Given as goal

abbrev pub invariant-loop-byte : goal.invariant-loop-byte
invariant-loop-byte l = with_digits l.most (Some l.value) (drop l.byte-index l.word) ≡ digits_up_to l.most l.word
