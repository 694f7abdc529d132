use Rattle.std.proofs.Common.{◌≡◌, ◌&&◌, nat_le, drop}
use Rattle.std.specs.List.{list_all}
use Rattle.drm_text.specs.Lines.{is_printable}
use Rattle.drm_text.proofs.lines.are_text.Given as goal

abbrev pub invariant-loop-byte : goal.invariant-loop-byte
invariant-loop-byte l = (nat_le l.highest 94 && list_all is_printable (drop l.byte-index l.bytes)) ≡ list_all is_printable l.bytes
