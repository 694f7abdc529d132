use Rattle.std.proofs.Common.{◌≡◌, ◌++◌, replicate, string_bytes}
use Rattle.drm_words.proofs.fault.push_spaces.Given as goal

abbrev pub invariant-loop-number : goal.invariant-loop-number
invariant-loop-number l = string_bytes l.words ≡ string_bytes l.fn.words ++ replicate l.number 32
