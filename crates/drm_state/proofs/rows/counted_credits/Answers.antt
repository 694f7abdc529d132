use Rattle.std.proofs.Common.{◌≡◌, Some, slice_get, rules}
use Rattle.drm_lists.proofs.Places.{at_index}
use Rattle.drm_state.proofs.rows.counted_credits.Goals as goal

pub returns-in-Some : goal.returns-in-Some
returns-in-Some c =
    let at : slice_get c.args.journal.now c.args.fence ≡ Some c.in-Some.record.now = at_index c.args.journal.now c.args.fence c.in-Some.record.now c.in-Some.ensures.lookup.1 c.in-Some.ensures.lookup.3.0 in
    rw at (search rules)
