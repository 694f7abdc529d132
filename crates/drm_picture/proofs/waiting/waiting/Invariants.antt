use Rattle.std.proofs.Common.{◌≡◌, flat_map, take}
use Rattle.std.specs.List.{enumerate_from}
use Rattle.drm_picture.specs.Waiting.{waiting_from}
use Rattle.drm_picture.proofs.waiting.waiting.Given as goal

abbrev pub invariant-loop-place : goal.invariant-loop-place
invariant-loop-place l = l.bars.items ≡ flat_map (waiting_from l.run l.fences) (enumerate_from 0 (take l.place l.run))
