use Rattle.std.proofs.Common.{◌≡◌}
use Rattle.ww_lock.proofs.inside.wait_for_pivot.Given as goal

abbrev pub invariant-loop : goal.invariant-loop
invariant-loop g l = (l.place.table_id ≡ l.fn.place.table_id) × (l.place.id ≡ l.fn.place.id) × (l.place.me ≡ l.fn.place.me)
