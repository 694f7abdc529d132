use Rattle.std.proofs.Common.{◌≡◌, ◌++◌, take}
use Rattle.std.specs.List.{filter_map}
use Rattle.drm_picture.specs.Waiting.{waiting_at}
use Rattle.drm_picture.proofs.waiting.push_waiting.Given as goal

abbrev pub invariant-loop-declaration : goal.invariant-loop-declaration
invariant-loop-declaration l = l.bars.items ≡ l.initial.bars.items ++ filter_map (waiting_at l.run l.fences l.place l.fence) (take l.declaration-index l.declared)
