use Rattle.std.proofs.Common.{◌≡◌, ◌+◌, ap, set}
use Rattle.std.proofs.lemmas.Option.{slice_get_within}
use Rattle.drm_lists.proofs.Places.{at_index}
use Rattle.drm_state.proofs.loads.Loads.add.Goals as goal

pub returns-clause-live : goal.returns-clause-live
returns-clause-live c n at =
    let live = c.args.self.now.live.items in
    let here = at_index live c.args.ring c.index_mut.result.now c.index_mut.ensures.value (slice_get_within live c.args.ring n at) in
    let same : c.index_mut.result.now ≡ n = cc (here, at) in
    ap (λ m. set live c.args.ring (m + 1)) same
