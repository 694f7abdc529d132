use Rattle.std.proofs.Common.{◌≡◌, ◌≤◌, Some, drop}
use Rattle.drm_text.specs.Number.{digits_up_to, with_digits}
use Rattle.drm_trace.proofs.search.digits_value.Given as goal

abbrev pub invariant-loop-digit : goal.invariant-loop-digit
invariant-loop-digit l = record {
  small : l.value ≤ l.most;
  same : with_digits l.most (Some l.value) (drop l.digit-index l.digits) ≡ digits_up_to l.most l.digits;
}
