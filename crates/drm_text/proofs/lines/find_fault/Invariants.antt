use Rattle.std.proofs.Common.{◌≡◌, ◌+◌, drop}
use Rattle.drm_text.specs.Lines.{text_fault}
use Rattle.drm_text.proofs.lines.find_fault.Given as goal

abbrev pub invariant-loop-byte : goal.invariant-loop-byte
invariant-loop-byte l = (text_fault l.line l.column (drop l.byte-index l.bytes) ≡ text_fault l.line 1 l.bytes) × (l.column ≡ l.byte-index + 1)
