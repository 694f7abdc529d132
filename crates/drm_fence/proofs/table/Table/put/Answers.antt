use Rattle.std.proofs.Common.{◌≡◌, length, subst, arith}
use Rattle.drm_fence.specs.Linked.{IsJoined}
use Rattle.drm_fence.proofs.Counted.{count_fits}
use Rattle.drm_fence.proofs.Linking.{put_linked}
use Rattle.drm_fence.proofs.table.Table.put.Goals as goal

pub overflow_add-index_mut : goal.overflow_add-index_mut
overflow_add-index_mut c =
    let fits = count_fits _ _ _ _ c.requires.linked.counted c.requires.entity c.index_mut-2.ensures.value in omega (arith, fits)

pub returns-clause-linked : goal.returns-clause-linked
returns-clause-linked c =
    let links = c.args.self.now.links.items in
    let middle = c.join.new.links.items in
    let size : c.len-cells.result ≡ length c.args.self.now.cells.items = omega (arith, c.len-cells.ensures) in
    put_linked _ _ _ _ _ _ _ _ _ c.args.pair c.requires.linked c.requires.free c.requires.place c.requires.of c.requires.entity c.requires.fence c.index_mut-2.ensures.value
    c.gap_for-before.ensures.inside c.gap_for-before.ensures.neighbours
    (subst (λ n. IsJoined links middle n c.args.pair.fence c.gap_for-before.result.0 c.args.place) size c.join.ensures.joined)
    (subst (λ n. IsJoined middle c.join-2.new.links.items n c.args.pair.fence c.args.place c.gap_for-before.result.1) size c.join-2.ensures.joined)
    c.gap_for-before.ensures.front c.gap_for-before.ensures.behind
