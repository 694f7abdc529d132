use Rattle.std.proofs.Common.{◌≡◌, Some, drop}
use Rattle.drm_trace.specs.Bytes.{with_hex_digits}
use Rattle.drm_trace.proofs.search.value_of_hex.Given as goal

abbrev pub invariant-loop-digit : goal.invariant-loop-digit
invariant-loop-digit l = with_hex_digits (Some l.value) (drop l.digit-index l.digits) ≡ with_hex_digits (Some 0) l.digits
