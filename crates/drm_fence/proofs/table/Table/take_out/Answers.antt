use Rattle.std.proofs.Common.{◌≡◌, length, ◌<◌, sym, subst, arith}
use Rattle.drm_fence.specs.Linked.{before_of, behind_of, linked_place, IsJoined}
use Rattle.drm_fence.proofs.Counted.{at_least_one}
use Rattle.drm_fence.proofs.Linking.{taken_linked, links_at, pair_in_places, neighbours_of_pair, few_cells}
use Rattle.drm_fence.proofs.table.Table.take_out.Goals as goal

pub join-requires-clause-cells : goal.join-requires-clause-cells
join-requires-clause-cells c = omega (arith, few_cells _ _ _ c.requires.linked, c.len-cells.ensures)

pub join-requires-clause-before : goal.join-requires-clause-before
join-requires-clause-before c =
    let cells = c.args.self.now.cells.items in
    let links = c.args.self.now.links.items in
    let size : c.len-cells.result ≡ length cells = omega (arith, c.len-cells.ensures) in
    let is = links_at _ _ _ (pair_in_places _ _ _ _ _ c.requires.linked c.requires.at) c.index.ensures in
    subst (λ m. linked_place m c.args.pair.fence c.index.result.now.before < length links) (sym size)
    (subst (λ n. linked_place (length cells) c.args.pair.fence n < length links) is.0 (neighbours_of_pair _ _ _ _ _ c.requires.linked c.requires.at).0)

pub join-requires-clause-behind : goal.join-requires-clause-behind
join-requires-clause-behind c =
    let cells = c.args.self.now.cells.items in
    let links = c.args.self.now.links.items in
    let size : c.len-cells.result ≡ length cells = omega (arith, c.len-cells.ensures) in
    let is = links_at _ _ _ (pair_in_places _ _ _ _ _ c.requires.linked c.requires.at) c.index.ensures in
    subst (λ m. linked_place m c.args.pair.fence c.index.result.now.behind < length links) (sym size)
    (subst (λ n. linked_place (length cells) c.args.pair.fence n < length links) is.1 (neighbours_of_pair _ _ _ _ _ c.requires.linked c.requires.at).1)

pub overflow_sub-index_mut : goal.overflow_sub-index_mut
overflow_sub-index_mut c = at_least_one _ _ _ _ c.args.pair c.requires.linked.counted c.requires.at c.index_mut-2.ensures.value

pub returns-clause-linked : goal.returns-clause-linked
returns-clause-linked c =
    let links = c.args.self.now.links.items in
    let new = c.join.new.links.items in
    let size : c.len-cells.result ≡ length c.args.self.now.cells.items = omega (arith, c.len-cells.ensures) in
    let is = links_at _ _ _ (pair_in_places _ _ _ _ _ c.requires.linked c.requires.at) c.index.ensures in
    taken_linked _ _ links _ _ _ c.args.pair c.requires.linked c.requires.at
    (subst (λ m. IsJoined links new m c.args.pair.fence (before_of links c.args.place) (behind_of links c.args.place)) size
    (subst (λ a. IsJoined links new c.len-cells.result c.args.pair.fence a (behind_of links c.args.place)) (sym is.0)
    (subst (λ b. IsJoined links new c.len-cells.result c.args.pair.fence c.index.result.now.before b) (sym is.1) c.join.ensures.joined)))
    c.index_mut-2.ensures.value
