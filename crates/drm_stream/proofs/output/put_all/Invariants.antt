use Rattle.std.proofs.Common.{◌≡◌, ℕ, drop, length, take}
use Rattle.std.specs.Io.KnownBytes.{Appends}
use Rattle.drm_stream.specs.Streams.{NoWriteFailed}
use Rattle.drm_stream.proofs.output.put_all.Given as goal

abbrev pub invariant-turn : goal.invariant-turn
invariant-turn g l = record {
  so_far : (k : ℕ) × (l.rest ≡ drop k l.bytes) × Appends l.fn.writer.contents l.writer.contents (take k l.bytes);
  none : NoWriteFailed l.fn.writer l.writer;
}

abbrev pub decreases-turn : goal.decreases-turn
decreases-turn g l = length l.rest
