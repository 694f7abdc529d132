use Rattle.std.proofs.Common.{◌≡◌, map, take}
use Rattle.drm_draw.proofs.drawing.limits.Given as goal

abbrev pub invariant-loop-ring : goal.invariant-loop-ring
invariant-loop-ring l = l.limits.items ≡ map (λ ring. ring.credit_limit) (take l.ring-index l.ring-items)
