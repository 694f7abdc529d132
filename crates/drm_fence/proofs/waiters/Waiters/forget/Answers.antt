use Rattle.std.proofs.Common.{◌≡◌, ◌≤◌, not, ◌==◌, length, List, sym, ap, subst, arith}
use Rattle.drm_fence.specs.declared.pair.Pair.{Pair}
use Rattle.drm_fence.specs.Waiting.{Waiting, without_entity}
use Rattle.drm_fence.specs.Cells.{pairs_in}
use Rattle.drm_fence.proofs.Pairs.{filter_kept}
use Rattle.drm_fence.proofs.Linking.{entity_within}
use Rattle.drm_fence.proofs.waiters.Waiters.forget.Goals as goal

pub returns-else-entity-len : goal.returns-else-entity-len
returns-else-entity-len c =
    let cells = c.self.inside.table.cells.items in
    let pairs : pairs_in cells ≡ c.args.self.now.pairs = ap (λ (w : Waiting). w.pairs) c.self.view_is in
    let past : length c.self.inside.table.unmet.items ≤ c.args.entity = omega (arith, c.len.ensures, c.if-entity-len.false) in
    let all : without_entity (pairs_in cells) c.args.entity ≡ pairs_in cells =
    filter_kept (λ p. not (p.entity == c.args.entity)) cells (λ k p at. ap (λ b. not b) (entity_within _ _ _ c.args.entity c.self.invariant.0 past k p at)) in
    ap (λ (l : List Pair). record { entities = c.args.self.now.entities; fences = c.args.self.now.fences; pairs = l })
    (sym (subst (λ (l : List Pair). without_entity l c.args.entity ≡ l) pairs all))
