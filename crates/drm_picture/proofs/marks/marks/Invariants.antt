use Rattle.std.proofs.Common.{◌≡◌, take}
use Rattle.drm_picture.specs.Marks.{marks_of}
use Rattle.drm_picture.proofs.marks.marks.Given as goal

abbrev pub invariant-loop-place : goal.invariant-loop-place
invariant-loop-place l = l.marks.items ≡ marks_of l.from (take l.place l.run)
