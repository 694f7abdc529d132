use Rattle.std.proofs.Common.{◌≡◌, ◌++◌, length}
use Rattle.drm_text.specs.Hexadecimal.{text_of_bytes}
use Rattle.drm_text.proofs.hexadecimal.put_bytes.Given as goal

abbrev pub invariant-loop-rest : goal.invariant-loop-rest
invariant-loop-rest l = l.out.items ++ text_of_bytes l.rest ≡ l.fn.out.items ++ text_of_bytes l.bytes

abbrev pub decreases-loop-rest : goal.decreases-loop-rest
decreases-loop-rest l = length l.rest
