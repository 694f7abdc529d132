use Rattle.std.proofs.Common.{◌≡◌, filter, take}
use Rattle.drm_draw.specs.Legend.{occurs}
use Rattle.drm_draw.proofs.legend.occurring.Given as goal

abbrev pub invariant-loop-key : goal.invariant-loop-key
invariant-loop-key l = l.legend.items ≡ filter (occurs l.picture) (take l.key-index l.keys)
