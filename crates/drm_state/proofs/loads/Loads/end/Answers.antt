use Rattle.std.proofs.Common.{◌≡◌, ◌+◌, ◌-◌, ap, set, arith}
use Rattle.std.proofs.lemmas.Option.{slice_get_within}
use Rattle.drm_lists.proofs.Places.{at_index}
use Rattle.drm_state.proofs.loads.Loads.end.Goals as goal

pub returns-clause-live : goal.returns-clause-live
returns-clause-live c n at =
    let live = c.args.self.now.live.items in
    let here = at_index live c.args.ring c.index_mut.result.now c.index_mut.ensures.value (slice_get_within live c.args.ring (n + 1) at) in
    let same : c.index_mut.result.now ≡ n + 1 = cc (here, at) in
    let less : c.index_mut.result.now - 1 ≡ n = omega (arith, same) in
    ap (λ m. set live c.args.ring m) less
