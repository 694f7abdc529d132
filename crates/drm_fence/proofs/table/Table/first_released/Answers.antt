use Rattle.std.proofs.Common.{◌≡◌, ◌+◌, length, Some, slice_get, sym, ap, subst, ◌∙◌, arith}
use Rattle.drm_fence.specs.Cells.{fence_of}
use Rattle.drm_fence.specs.Linked.{behind_of}
use Rattle.drm_fence.proofs.Linking.{links_at, none_released, first_stays, front_link, front_place}
use Rattle.drm_fence.proofs.table.Table.first_released.Goals as goal

pub returns-in_err-pair-clause-none : goal.returns-in_err-pair-clause-none
returns-in_err-pair-clause-none c =
    let cells = c.args.self.now.cells.items in
    let links = c.args.self.now.links.items in
    let place : c.len.result + c.fence.result ≡ length cells + fence_of c.args.why = omega (arith, c.len.ensures, c.fence.ensures) in
    let is = links_at links (c.len.result + c.fence.result) c.index.result.now (omega (arith, place, c.requires.fence)) c.index.ensures in
    let next : behind_of links (length cells + fence_of c.args.why) ≡ c.index.result.now.behind = sym (ap (behind_of links) place) ∙ is.1 in
    rw c.from_residual.ensures (λ k p at.
    none_released cells _ links c.args.why k p c.requires.linked
    (λ q front. c.in_err-pair.ensures.none q (subst (λ j. slice_get cells j ≡ Some (Some q)) next (front_link cells _ links (fence_of c.args.why) q c.requires.linked c.requires.fence front))) at)

pub returns-else-releases-clause-none : goal.returns-else-releases-clause-none
returns-else-releases-clause-none c =
    let cells = c.args.self.now.cells.items in
    let links = c.args.self.now.links.items in
    let place : c.len.result + c.fence.result ≡ length cells + fence_of c.args.why = omega (arith, c.len.ensures, c.fence.ensures) in
    let is = links_at links (c.len.result + c.fence.result) c.index.result.now (omega (arith, place, c.requires.fence)) c.index.ensures in
    let next : behind_of links (length cells + fence_of c.args.why) ≡ c.index.result.now.behind = sym (ap (behind_of links) place) ∙ is.1 in λ k p at.
    first_stays cells _ links c.args.why k p c.in_ok-pair.pair c.requires.linked c.requires.fence
    (front_place cells _ links (fence_of c.args.why) c.in_ok-pair.pair c.requires.linked c.requires.fence
    (subst (λ j. slice_get cells j ≡ Some (Some c.in_ok-pair.pair)) (sym next) c.in_ok-pair.ensures.some)) (sym c.releases.ensures ∙ c.if-releases.false) at
