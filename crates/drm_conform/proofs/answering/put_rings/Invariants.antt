use Rattle.std.proofs.Common.{◌≡◌, ◌++◌}
use Rattle.drm_conform.specs.Words.{text_of_rings}
use Rattle.drm_conform.proofs.answering.put_rings.Given as goal

abbrev pub invariant-loop-ring : goal.invariant-loop-ring
invariant-loop-ring l = l.text.items ≡ l.fn.text.items ++ text_of_rings l.log l.ring
