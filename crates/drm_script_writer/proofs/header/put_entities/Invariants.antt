use Rattle.std.proofs.Common.{◌≡◌, ◌++◌, drop, take}
use Rattle.std.specs.Prelude.{flat_map}
use Rattle.std.specs.List.{AllByRecursion}
use Rattle.drm_parse.specs.Grammar.{IsNumber}
use Rattle.drm_script_writer.specs.Headers.{line_of_entity}
use Rattle.drm_script_writer.proofs.header.put_entities.Given as goal

abbrev pub invariant-loop-entity : goal.invariant-loop-entity
invariant-loop-entity l =
    (l.out.items ++ flat_map line_of_entity (drop l.entity-index l.entities) ≡ l.fn.out.items ++ flat_map line_of_entity l.entities)
    × AllByRecursion (λ entity. AllByRecursion IsNumber entity.rings) (take l.entity-index l.entities)
