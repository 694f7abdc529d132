use Rattle.std.proofs.Common.{◌≡◌, ◌+◌, ◌*◌, ◌≤◌, length}
use Rattle.std.specs.Prelude.{vec_capacity}
use Rattle.drm_text.specs.Hexadecimal.{with_bytes, bytes_of}
use Rattle.drm_text.proofs.hexadecimal.read_bytes.Given as goal

abbrev pub invariant-loop-rest : goal.invariant-loop-rest
invariant-loop-rest l = (with_bytes l.bytes.items l.rest ≡ bytes_of l.word) × (2 * length l.bytes.items + length l.rest ≤ 2 * vec_capacity l.bytes + 1)

abbrev pub decreases-loop-rest : goal.decreases-loop-rest
decreases-loop-rest l = length l.rest
