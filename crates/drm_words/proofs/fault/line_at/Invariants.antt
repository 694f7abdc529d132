use Rattle.std.proofs.Common.{◌≡◌, ◌-◌, ◌≤◌, drop}
use Rattle.drm_text.specs.Cut.{parts_of}
use Rattle.drm_words.proofs.fault.line_at.Given as goal

abbrev pub invariant-loop-number : goal.invariant-loop-number
invariant-loop-number l = record {
  left : l.lines.parts ≡ drop (l.number - 1) (parts_of 10 l.text);
  within : l.number - 1 ≤ l.line - 1;
}
