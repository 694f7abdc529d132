use Rattle.std.proofs.Common.{◌≡◌, ◌&&◌, drop}
use Rattle.std.specs.List.{list_all}
use Rattle.drm_text.specs.Hexadecimal.{is_hex_digit}
use Rattle.drm_text.proofs.hexadecimal.are_digits.Given as goal

abbrev pub invariant-loop-byte : goal.invariant-loop-byte
invariant-loop-byte l = (l.all && list_all is_hex_digit (drop l.byte-index l.word)) ≡ list_all is_hex_digit l.word
