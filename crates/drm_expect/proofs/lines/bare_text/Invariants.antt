use Rattle.std.proofs.Common.{◌≡◌, ◌++◌, drop}
use Rattle.drm_expect.specs.Lines.{script_text}
use Rattle.drm_expect.proofs.lines.bare_text.Given as goal

abbrev pub invariant-loop-line : goal.invariant-loop-line
invariant-loop-line l = l.out.items ++ script_text (drop l.line-index l.lines) ≡ script_text l.lines
