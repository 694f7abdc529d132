use Rattle.std.proofs.Common.{◌≡◌, ◌++◌, take}
use Rattle.drm_picture.specs.Marks.{marks_of_plan}
use Rattle.drm_picture.proofs.marks.push_planned.Given as goal

abbrev pub invariant-loop-declaration : goal.invariant-loop-declaration
invariant-loop-declaration l = l.marks.items ≡ l.initial.marks.items ++ marks_of_plan l.place (take l.declaration-index l.declared)
