use Rattle.std.proofs.Common.{◌≡◌, ◌++◌, map, string_bytes, take}
use Rattle.drm_words.specs.Faults.{shown}
use Rattle.drm_words.proofs.fault.push_line.Given as goal

abbrev pub invariant-loop-byte : goal.invariant-loop-byte
invariant-loop-byte l = string_bytes l.words ≡ string_bytes l.fn.words ++ map shown (take l.byte-index l.line)
