use Rattle.std.proofs.Common.{◌≡◌, ◌++◌, drop, map}
use Rattle.drm_reason.specs.Said.{text_of_parts, told_part}
use Rattle.drm_why.proofs.sentences.put_parts.Given as goal

abbrev pub invariant-loop-part : goal.invariant-loop-part
invariant-loop-part l = l.out.items ++ text_of_parts (map told_part (drop l.part-index l.parts)) ≡ l.fn.out.items ++ text_of_parts (map told_part l.parts)
