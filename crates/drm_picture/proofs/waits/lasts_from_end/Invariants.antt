use Rattle.std.proofs.Common.{◌≡◌, drop, reverse}
use Rattle.std.specs.List.{filter_map}
use Rattle.drm_picture.specs.Waits.{earlier_of, last_of_each}
use Rattle.drm_picture.proofs.waits.lasts_from_end.Given as goal

abbrev pub invariant-loop-index : goal.invariant-loop-index
invariant-loop-index l = reverse l.jobs.items ≡ last_of_each (filter_map (earlier_of l.run l.place l.later) (drop l.index l.fences))
