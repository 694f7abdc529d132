use Rattle.std.proofs.Common.{◌++◌, take}
use Rattle.drm_engine.specs.Replaying.{ToldSoFar}
use Rattle.drm_engine.proofs.filling.put_bytes.Given as goal

abbrev pub invariant-loop-byte : goal.invariant-loop-byte
invariant-loop-byte g l = ToldSoFar l.fn.writer l.writer (l.fn.piece ++ take l.byte-index l.bytes) l.piece
