use Rattle.std.proofs.Common.{◌≡◌, drop}
use Rattle.drm_picture.specs.Latest.{latest_end}
use Rattle.drm_picture.proofs.waiting.latest_end.Given as goal

abbrev pub invariant-loop-index : goal.invariant-loop-index
invariant-loop-index l = l.latest ≡ latest_end l.run l.place l.declared (drop l.index l.fences)
