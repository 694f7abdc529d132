use Rattle.std.proofs.Common.{◌≡◌, take}
use Rattle.drm_engine.proofs.comparison.compare.Given as goal

abbrev pub invariant-loop-buffer : goal.invariant-loop-buffer
invariant-loop-buffer l = take l.buffer l.left ≡ take l.buffer l.told
