use Rattle.std.proofs.Common.{◌≡◌, ◌-◌, List, get_or, Some, refl, sym, ap, ◌∙◌, arith}
use Rattle.std.specs.Prelude.{vec_capacity}
use Rattle.std.proofs.lemmas.Option.{slice_get-get_or, get_or_from_slice_get}
use Rattle.drm_lists.proofs.Changed.{set_same}
use Rattle.drm_entity.specs.declared.entities.Links.{Links}
use Rattle.drm_entity.proofs.Seen.{link_at, queue_is, first_fits, shown}
use Rattle.drm_entity.proofs.Changed.{linked_popped, popped_rest, changed_is}
use Rattle.drm_entity.specs.Rows.{EntityRow}
use Rattle.drm_entity.specs.Linked.{walk, queue_of}
use Rattle.drm_entity.proofs.entities.Entities.pop.Goals as goal

pub returns-then-links-eq0-clause-none : goal.returns-then-links-eq0-clause-none
returns-then-links-eq0-clause-none c =
    let next = c.self.inside.next.items in
    let l = c.index_mut-links.result.now in
    let at = link_at _ _ _ _ _ _ c.self.view_is c.requires c.index_mut-links.ensures.value in (
      queue_is _ _ _ _ _ _ c.self.view_is at ∙ ap (walk next l.first) c.if-links-eq0.true,
      ap (λ (links : List Links). shown (vec_capacity c.self.inside.next) next links) (set_same c.self.inside.links.items c.args.entity l at) ∙ c.self.view_is,
    )

pub index-requires : goal.index-requires
index-requires c =
    let at = link_at _ _ _ _ _ _ c.self.view_is c.requires c.index_mut-links.ensures.value in
    let fits = first_fits _ _ _ _ c.self.invariant.0 at c.if-links-eq0.false in omega (arith, fits)

pub invariant_of-self-2 : goal.invariant_of-self-2
invariant_of-self-2 c =
    let next = c.self.inside.next.items in
    let l = c.index_mut-links.result.now in
    let at = link_at _ _ _ _ _ _ c.self.view_is c.requires c.index_mut-links.ensures.value in
    let fits = first_fits _ _ _ _ c.self.invariant.0 at c.if-links-eq0.false in
    let behind : c.index.result.now ≡ get_or next l.first 0 =
    sym (get_or_from_slice_get next l.first _ 0 (slice_get-get_or _ _ _ fits ∙ ap Some (sym c.index.ensures))) in
    let rest = popped_rest next l (record l { first = c.index.result.now; len = l.len - 1 }) c.if-links-eq0.false behind refl in
    (linked_popped _ _ _ _ _ _ c.self.invariant.0 at rest.0 refl rest.1, c.self.invariant.1)

pub returns-clause-some : goal.returns-clause-some
returns-clause-some c =
    let next = c.self.inside.next.items in
    let l = c.index_mut-links.result.now in
    let at = link_at _ _ _ _ _ _ c.self.view_is c.requires c.index_mut-links.ensures.value in
    let fits = first_fits _ _ _ _ c.self.invariant.0 at c.if-links-eq0.false in
    let behind : c.index.result.now ≡ get_or next l.first 0 =
    sym (get_or_from_slice_get next l.first _ 0 (slice_get-get_or _ _ _ fits ∙ ap Some (sym c.index.ensures))) in
    let left : Links = record l { first = c.index.result.now; len = l.len - 1 } in
    let rest = popped_rest next l left c.if-links-eq0.false behind refl in (
      queue_of next left,
      queue_is _ _ _ _ _ _ c.self.view_is at ∙ rest.0,
      changed_is _ _ _ _ _ c.args.entity _ left (λ (r : EntityRow). record r { queue = queue_of next left }) c.self.view_is at (λ f m away at_f. refl) refl,
    )
