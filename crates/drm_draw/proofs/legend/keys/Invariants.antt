use Rattle.std.proofs.Common.{◌≡◌}
use Rattle.drm_draw.specs.Legend.{entity_keys}
use Rattle.drm_draw.proofs.legend.keys.Given as goal

abbrev pub invariant-loop-entity : goal.invariant-loop-entity
invariant-loop-entity l = l.keys.items ≡ entity_keys l.entity
