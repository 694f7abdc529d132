use Rattle.std.proofs.Common.{◌≡◌, ◌++◌, ◌∷◌, [], length, arith, sym, ap, subst, ◌∙◌}
use Rattle.drm_fence.specs.Linked.{IsLinked}
use Rattle.drm_fence.specs.declared.links.Links.{Links}
use Rattle.drm_fence.proofs.Linking.{more_linked}
use Rattle.drm_fence.proofs.table.Table.add_list.Goals as goal

pub returns-clause-linked : goal.returns-clause-linked
returns-clause-linked c =
    let cells = c.args.self.now.cells.items in
    let links = c.args.self.now.links.items in
    let end : c.len-end.result ≡ length cells = omega (arith, c.len-end.ensures) in
    let pushed = c.push_reserved.ensures.items ∙ ap (λ n. let last : Links = record { before = n; behind = n } in links ++ last ∷ []) end in
    subst (IsLinked cells c.args.self.now.unmet.items) (sym pushed) (more_linked cells _ links c.requires.linked c.requires.places)
