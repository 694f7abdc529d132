use Rattle.std.proofs.Common.{◌≡◌, ◌++◌, drop, take}
use Rattle.std.specs.Prelude.{flat_map}
use Rattle.std.specs.List.{AllByRecursion}
use Rattle.drm_parse.specs.Grammar.{RingFits}
use Rattle.drm_script_writer.specs.Headers.{line_of_ring}
use Rattle.drm_script_writer.proofs.header.put_rings.Given as goal

abbrev pub invariant-loop-ring : goal.invariant-loop-ring
invariant-loop-ring l =
    (l.out.items ++ flat_map line_of_ring (drop l.ring-index l.rings) ≡ l.fn.out.items ++ flat_map line_of_ring l.rings)
    × AllByRecursion RingFits (take l.ring-index l.rings)
