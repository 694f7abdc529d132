use Rattle.std.proofs.Common.{◌≡◌, All}
use Rattle.std.specs.Vec.Iter.{into_iter_items}
use Rattle.drm_workers.specs.declared.work.Done.{Done}
use Rattle.drm_workers_tests.proofs.held_up.gathered.Given as goal

-- the pass so far and those that are left are of the device
abbrev pub invariant-loop-done : goal.invariant-loop-done
invariant-loop-done g l = (l.pass.gpu ≡ l.gpu) × All (λ (d : Done). d.pass.gpu ≡ l.gpu) (into_iter_items l.done-iterator)
