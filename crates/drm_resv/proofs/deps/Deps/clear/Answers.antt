use Rattle.std.proofs.Common.{subst, sym}
use Rattle.drm_resv.specs.Latest.{IsPerEntity}
use Rattle.drm_resv.proofs.NotedIs.{per_entity_none}
use Rattle.drm_resv.proofs.deps.Deps.clear.Goals as goal

pub invariant_of-self : goal.invariant_of-self
invariant_of-self c = subst IsPerEntity (sym c.clear.ensures) per_entity_none
