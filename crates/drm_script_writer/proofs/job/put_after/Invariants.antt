use Rattle.std.proofs.Common.{◌≡◌, ◌++◌, drop, take}
use Rattle.std.specs.Prelude.{flat_map}
use Rattle.std.specs.List.{AllByRecursion}
use Rattle.drm_parse.specs.Grammar.{IsNumber}
use Rattle.drm_script_writer.specs.Jobs.{word_of_fence}
use Rattle.drm_script_writer.proofs.job.put_after.Given as goal

abbrev pub invariant-loop-fence : goal.invariant-loop-fence
invariant-loop-fence l =
    (l.out.items ++ flat_map word_of_fence (drop l.fence-index l.after) ≡ l.fn.out.items ++ flat_map word_of_fence l.after)
    × AllByRecursion IsNumber (take l.fence-index l.after)
