use Rattle.std.proofs.Common.{◌≡◌, ◌+◌, ◌≤◌, arith, length, not, ◌==◌, ◌&&◌, List, sym, ap, subst}
use Rattle.drm_fence.specs.declared.pair.Pair.{Pair}
use Rattle.drm_fence.specs.Waiting.{Waiting, without_early}
use Rattle.drm_fence.specs.Cells.{pairs_in}
use Rattle.drm_fence.proofs.Pairs.{filter_kept}
use Rattle.drm_fence.proofs.Linking.{fence_within}
use Rattle.drm_fence.proofs.waiters.Waiters.scheduled.Goals as goal

pub returns-else-fence-lists : goal.returns-else-fence-lists
returns-else-fence-lists c =
    let cells = c.self.inside.table.cells.items in
    let pairs : pairs_in cells ≡ c.args.self.now.pairs = ap (λ (w : Waiting). w.pairs) c.self.view_is in
    let past : length c.self.inside.table.links.items ≤ length cells + c.args.fence = omega (arith, c.lists.ensures, c.if-fence-lists.false) in
    let all : without_early (pairs_in cells) c.args.fence ≡ pairs_in cells =
    filter_kept (λ p. not ((p.fence == c.args.fence) && p.is_early)) cells (λ k p at. ap (λ b. not (b && p.is_early)) (fence_within _ _ _ c.args.fence c.self.invariant.0 past k p at)) in
    ap (λ (l : List Pair). record { entities = c.args.self.now.entities; fences = c.args.self.now.fences; pairs = l })
    (sym (subst (λ (l : List Pair). without_early l c.args.fence ≡ l) pairs all))
