use Rattle.std.proofs.Common.{◌≡◌, take}
use Rattle.drm_buffer.proofs.memory.Memory.copy_of.Given as goal

abbrev pub invariant-loop-original : goal.invariant-loop-original
invariant-loop-original l = l.copies.items ≡ take l.original-index l.originals
