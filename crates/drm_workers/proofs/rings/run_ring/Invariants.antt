use Rattle.drm_workers.specs.Armings.{ArmsNoMore}
use Rattle.drm_workers.proofs.rings.run_ring.Given as goal

abbrev pub invariant-loop : goal.invariant-loop
invariant-loop g l = ArmsNoMore l.fn.pass l.pass
