use Rattle.std.proofs.Common.{◌≡◌, flat_map, take}
use Rattle.std.specs.List.{enumerate_from}
use Rattle.drm_picture.specs.Waits.{waits_at}
use Rattle.drm_picture.proofs.waits.waits.Given as goal

abbrev pub invariant-loop-place : goal.invariant-loop-place
invariant-loop-place l = l.waits.items ≡ flat_map (waits_at l.from l.run l.fences) (enumerate_from 0 (take l.place l.run))
