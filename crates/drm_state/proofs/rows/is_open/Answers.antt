use Rattle.std.proofs.Common.{◌≡◌, Some, slice_get, refl, rules}
use Rattle.std.proofs.lemmas.Option.{slice_get_past}
use Rattle.drm_lists.proofs.Places.{at_index}
use Rattle.drm_state.proofs.rows.is_open.Goals as goal

pub returns-in-Some : goal.returns-in-Some
returns-in-Some c =
    let at : slice_get c.args.journal.now c.args.fence ≡ Some c.in-Some.record.now = at_index c.args.journal.now c.args.fence c.in-Some.record.now c.in-Some.ensures.lookup.1 c.in-Some.ensures.lookup.3.0 in
    rw at (search rules)

pub returns-in-None : goal.returns-in-None
returns-in-None c = rw (slice_get_past c.args.journal.now c.args.fence c.in-None.ensures.lookup.3) refl
