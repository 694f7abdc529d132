use Rattle.std.proofs.Common.{◌≡◌, ◌++◌, take}
use Rattle.std.specs.Prelude.{flat_map}
use Rattle.drm_conform.specs.Words.{text_of_broken}
use Rattle.drm_conform.proofs.answering.put_all_broken.Given as goal

abbrev pub invariant-loop-one : goal.invariant-loop-one
invariant-loop-one l = l.text.items ≡ l.fn.text.items ++ flat_map (text_of_broken l.log) (take l.one-index l.found)
