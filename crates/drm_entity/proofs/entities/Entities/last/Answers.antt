use Rattle.std.proofs.Common.{sym, ap, ◌∙◌}
use Rattle.drm_entity.proofs.Seen.{link_at, queue_is, last_is}
use Rattle.drm_entity.specs.Rows.{last_of}
use Rattle.drm_entity.proofs.entities.Entities.last.Goals as goal

pub returns-else-links-eq0 : goal.returns-else-links-eq0
returns-else-links-eq0 c =
    let at = link_at _ _ _ _ _ _ c.self.view_is c.requires c.index-links.ensures in
    last_is _ _ _ _ c.self.invariant.0 at c.if-links-eq0.false ∙ ap last_of (sym (queue_is _ _ _ _ _ _ c.self.view_is at))
