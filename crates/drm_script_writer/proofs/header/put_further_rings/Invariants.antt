use Rattle.std.proofs.Common.{◌≡◌, ◌++◌, drop, take}
use Rattle.std.specs.List.{AllByRecursion}
use Rattle.drm_answer.specs.Answers.{separated}
use Rattle.drm_parse.specs.Grammar.{IsNumber}
use Rattle.drm_script_writer.proofs.header.put_further_rings.Given as goal

abbrev pub invariant-loop-ring : goal.invariant-loop-ring
invariant-loop-ring l =
    (l.out.items ++ separated 44 (drop l.ring-index l.rings) ≡ l.fn.out.items ++ separated 44 l.rings)
    × AllByRecursion IsNumber (take l.ring-index l.rings)
