use Rattle.std.proofs.Common.{◌≡◌, ◌&&◌, nat_le, drop}
use Rattle.std.specs.List.{list_all}
use Rattle.drm_text.specs.Lines.{is_of_lines}
use Rattle.drm_text.proofs.lines.is_text_of_lines.Given as goal

abbrev pub invariant-loop-byte : goal.invariant-loop-byte
invariant-loop-byte l = (nat_le l.farthest 94 && list_all is_of_lines (drop l.byte-index l.text)) ≡ list_all is_of_lines l.text
