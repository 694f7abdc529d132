use Rattle.std.proofs.Common.{sym, ap, ◌∙◌}
use Rattle.drm_entity.proofs.Seen.{link_at, queue_is, first_of_walk}
use Rattle.drm_types.specs.Firsts.{first}
use Rattle.drm_entity.proofs.entities.Entities.head.Goals as goal

pub returns-else-links-eq0 : goal.returns-else-links-eq0
returns-else-links-eq0 c =
    let at = link_at _ _ _ _ _ _ c.self.view_is c.requires c.index-links.ensures in
    first_of_walk _ _ _ c.if-links-eq0.false ∙ ap first (sym (queue_is _ _ _ _ _ _ c.self.view_is at))
