use Rattle.std.proofs.Common.{◌≡◌, map, take}
use Rattle.drm_ring.specs.RingRows.{idle_row}
use Rattle.drm_ring.proofs.rings.Rings.new.Given as goal

abbrev pub invariant-loop-ring : goal.invariant-loop-ring
invariant-loop-ring l = l.lists.items ≡ map idle_row (take l.ring-index l.ring-items)
