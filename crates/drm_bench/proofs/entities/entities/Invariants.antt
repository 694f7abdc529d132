use Rattle.std.proofs.Common.{◌≡◌}
use Rattle.drm_bench.specs.Queued.{AllBelow}
use Rattle.drm_bench.proofs.entities.entities.Given as goal

abbrev pub invariant-loop-job : goal.invariant-loop-job
invariant-loop-job l = record { places : l.entities.places ≡ 65535; below : AllBelow l.entities l.job }
