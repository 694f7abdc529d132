use Rattle.std.proofs.Common.{◌≡◌, true, take}
use Rattle.std.specs.List.{All}
use Rattle.drm_picture.specs.Lasts.{is_listed}
use Rattle.drm_picture.specs.Waits.{job_of}
use Rattle.drm_picture.proofs.waits.distinct_entities.Given as goal

abbrev pub invariant-loop-bar : goal.invariant-loop-bar
invariant-loop-bar l = All (λ bar. is_listed l.entities.items (job_of l.run bar) ≡ true) (take l.bar-index l.fences)
