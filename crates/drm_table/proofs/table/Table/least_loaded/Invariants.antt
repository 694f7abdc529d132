use Rattle.std.proofs.Common.{◌≡◌, ◌<◌, length, drop}
use Rattle.std.specs.Prelude.{fold}
use Rattle.drm_state.specs.Arming.{less_loaded}
use Rattle.drm_table.proofs.table.Table.least_loaded.Given as goal

abbrev pub invariant-loop-ring : goal.invariant-loop-ring
invariant-loop-ring l =
    (fold (less_loaded l.self.journal.items) l.best (drop l.ring-index l.rings) ≡ fold (less_loaded l.self.journal.items) l.initial.best l.rings)
    × (l.best < length l.self.spec.rings)
