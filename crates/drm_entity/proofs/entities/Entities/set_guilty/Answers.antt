use Rattle.std.proofs.Common.{refl, true}
use Rattle.drm_entity.proofs.Seen.{link_at}
use Rattle.drm_entity.proofs.Changed.{linked_marked, changed_is}
use Rattle.drm_entity.specs.Rows.{EntityRow}
use Rattle.drm_entity.proofs.entities.Entities.set_guilty.Goals as goal

pub invariant_of-self : goal.invariant_of-self
invariant_of-self c =
    let at = link_at _ _ _ _ _ _ c.self.view_is c.requires c.index_mut-links.ensures.value in
    (linked_marked _ _ _ _ _ c.self.invariant.0 at refl refl refl, c.self.invariant.1)

pub returns : goal.returns
returns c =
    let at = link_at _ _ _ _ _ _ c.self.view_is c.requires c.index_mut-links.ensures.value in
    changed_is _ _ _ _ _ c.args.entity _ _ (λ (r : EntityRow). record r { is_guilty = true }) c.self.view_is at (λ f m away at_f. refl) refl
