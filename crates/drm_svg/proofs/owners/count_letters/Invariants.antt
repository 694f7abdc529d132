use Rattle.std.proofs.Common.{◌≡◌, ◌*◌, ◌++◌, ◌≤◌, flat_map, length, take}
use Rattle.std.specs.Prelude.{decimal}
use Rattle.drm_svg.specs.Owners.{letter_of}
use Rattle.drm_svg.proofs.owners.count_letters.Given as goal

abbrev pub invariant-loop-declaration : goal.invariant-loop-declaration
invariant-loop-declaration l = record {
  value : l.count ≡ length (flat_map (λ d. letter_of d.1 ++ decimal d.0) (take l.declaration-index l.declared));
  most : l.count ≤ 23 * l.declaration-index;
}
