use Rattle.std.proofs.Common.{◌+◌, ◌-◌, ◌≤◌, drop, length}
use Rattle.drm_trace.specs.Pieces.{GoesOn}
use Rattle.drm_trace.proofs.pieces.add_lines.Given as goal

abbrev pub invariant-lines : goal.invariant-lines
invariant-lines l = record {
  within : l.at ≤ length l.text;
  goes : GoesOn l.fn.log l.text l.log (drop l.at l.text);
}

abbrev pub decreases-lines : goal.decreases-lines
decreases-lines l = length l.text + 1 - l.at
