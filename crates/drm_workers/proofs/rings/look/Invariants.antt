use Rattle.drm_workers.specs.Armings.{ArmsNoMore}
use Rattle.drm_workers.proofs.rings.look.Given as goal

abbrev pub invariant-loop-ring : goal.invariant-loop-ring
invariant-loop-ring g l = ArmsNoMore l.fn.pass l.pass
