use Rattle.std.proofs.Common.{◌≡◌, map, take}
use Rattle.drm_core_tests.proofs.entities_of.Given as goal

abbrev pub invariant-loop-entity : goal.invariant-loop-entity
invariant-loop-entity l =
    l.entities ≡ map (λ e. record { rings = e.rings.now; priority = e.priority }) (take l.entity-index l.list)
