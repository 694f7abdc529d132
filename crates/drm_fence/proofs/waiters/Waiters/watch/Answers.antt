use Rattle.std.proofs.Common.{◌≡◌, ◌+◌, ◌*◌, ◌<◌, length, List, Option, ◌∷◌, Some, None, set, slice_get, sym, ap, subst, ◌∙◌, arith}
use Rattle.drm_fence.specs.declared.pair.Pair.{Pair}
use Rattle.drm_fence.specs.Waiting.{Waiting, HasNoPair}
use Rattle.drm_fence.specs.Cells.{pairs_in}
use Rattle.std.specs.List.Sorted.{IsPermutation}
use Rattle.drm_fence.proofs.Pairs.{pairs_more}
use Rattle.drm_fence.proofs.Counted.{no_cell}
use Rattle.drm_fence.proofs.waiters.Waiters.watch.Goals as goal

pub put-requires-clause-free : goal.put-requires-clause-free
put-requires-clause-free c =
    let counted = c.self.invariant.0.counted in
    let there : c.args.entity < length c.self.inside.table.unmet.items = omega (arith, c.requires.entity, ap (λ (w : Waiting). w.entities) c.self.view_is) in
    let of : c.args.of < 64 = omega (arith, c.requires.of, ap (λ (w : Waiting). w.entities) c.self.view_is, counted.few) in
    let none : HasNoPair (pairs_in c.self.inside.table.cells.items) c.args.entity c.args.of =
    subst (λ (l : List Pair). HasNoPair l c.args.entity c.args.of) (sym (ap (λ (w : Waiting). w.pairs) c.self.view_is)) c.requires.new in
    subst (λ (l : List (Option Pair)). slice_get l (c.args.entity * 64 + c.args.of) ≡ Some None) (sym c.reach.ensures.cells) (no_cell _ _ _ _ counted there of none)

pub returns-clause-pairs : goal.returns-clause-pairs
returns-clause-pairs c =
    let counted = c.self.invariant.0.counted in
    let pair : Pair = record { entity = c.args.entity; fence = c.args.fence; of = c.args.of; is_early = c.args.early } in
    let pairs : pairs_in c.self.inside.table.cells.items ≡ c.args.self.now.pairs = ap (λ (w : Waiting). w.pairs) c.self.view_is in
    let there : c.args.entity < length c.self.inside.table.unmet.items = omega (arith, c.requires.entity, ap (λ (w : Waiting). w.entities) c.self.view_is) in
    let of : c.args.of < 64 = omega (arith, c.requires.of, ap (λ (w : Waiting). w.entities) c.self.view_is, counted.few) in
    let none : HasNoPair (pairs_in c.self.inside.table.cells.items) c.args.entity c.args.of =
    subst (λ (l : List Pair). HasNoPair l c.args.entity c.args.of) (sym pairs) c.requires.new in
    let free = no_cell _ _ _ _ counted there of none in
    subst (λ (l : List (Option Pair)). IsPermutation (pair ∷ c.args.self.now.pairs) (pairs_in l)) (sym (c.put.ensures.cells ∙ ap (λ (l : List (Option Pair)). set l (c.args.entity * 64 + c.args.of) (Some pair)) c.reach.ensures.cells))
    (subst (λ (l : List Pair). IsPermutation (pair ∷ l) (pairs_in (set c.self.inside.table.cells.items (c.args.entity * 64 + c.args.of) (Some pair)))) pairs
    (pairs_more c.self.inside.table.cells.items _ pair free))

pub put-requires-clause-fence : goal.put-requires-clause-fence
put-requires-clause-fence c = c.reach.ensures.fence
