use Rattle.std.proofs.Common.{◌++◌, ◌≤◌, flat_map, length, take}
use Rattle.std.specs.Prelude.{decimal}
use Rattle.drm_svg.specs.Owners.{verb_of}
use Rattle.drm_svg.specs.Pens.{Adds}
use Rattle.drm_svg.proofs.owners.put_each_use.Given as goal

abbrev pub invariant-loop-declaration : goal.invariant-loop-declaration
invariant-loop-declaration l = record {
  text : Adds l.fn.out.items l.fn.pen (flat_map (λ d. verb_of d.1 ++ decimal d.0) (take l.declaration-index l.declared)) l.out.items l.pen;
  room : length l.pen ≤ 4000;
}
