use Rattle.std.proofs.Common.{◌≡◌, ◌++◌, drop}
use Rattle.drm_why.specs.Lines.{spans_text}
use Rattle.drm_why.proofs.lines.put_spans.Given as goal

abbrev pub invariant-loop-number : goal.invariant-loop-number
invariant-loop-number l =
    l.out.items ++ spans_text l.place l.clock (drop l.number l.changes) ≡ l.fn.out.items ++ spans_text l.place l.clock l.changes
