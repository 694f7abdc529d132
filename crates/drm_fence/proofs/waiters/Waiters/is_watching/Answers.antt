use Rattle.std.proofs.Common.{◌+◌, ◌*◌, ◌<◌, length, List, Some, sym, ap, subst, ◌∙◌, arith}
use Rattle.std.proofs.lemmas.Option.{slice_get-get_or}
use Rattle.drm_fence.specs.declared.pair.Pair.{Pair}
use Rattle.drm_fence.specs.Waiting.{Waiting, HasNoPair}
use Rattle.drm_fence.proofs.Counted.{watching_is}
use Rattle.drm_fence.proofs.waiters.Waiters.is_watching.Goals as goal

pub returns : goal.returns
returns c =
    let there : c.args.entity < length c.self.inside.table.unmet.items = omega (arith, c.requires.entity, ap (λ (w : Waiting). w.entities) c.self.view_is) in
    let of : c.args.of < 64 = omega (arith, c.requires.of, ap (λ (w : Waiting). w.entities) c.self.view_is, c.self.invariant.0.counted.few) in
    let inside : c.args.entity * 64 + c.args.of < length c.self.inside.table.cells.items = omega (arith, there, of, c.self.invariant.0.counted.room) in
    let is = watching_is _ _ c.args.entity c.args.of c.index.result.now c.self.invariant.0.counted there of (slice_get-get_or _ _ _ inside ∙ ap Some (sym c.index.ensures)) in
    let pairs = ap (λ (w : Waiting). w.pairs) c.self.view_is in (
      λ none. subst (λ (l : List Pair). HasNoPair l c.args.entity c.args.of) pairs (is.0 (sym c.is_some.ensures ∙ none)),
      λ none. c.is_some.ensures ∙ is.1 (subst (λ (l : List Pair). HasNoPair l c.args.entity c.args.of) (sym pairs) none),
    )
