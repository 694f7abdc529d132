use Rattle.std.proofs.Common.{sym, ap, ◌∙◌}
use Rattle.drm_entity.proofs.Seen.{link_at, queue_is, nil_walk}
use Rattle.drm_types.specs.Firsts.{is_nil}
use Rattle.drm_entity.proofs.entities.Entities.is_empty.Goals as goal

pub returns : goal.returns
returns c =
    let at = link_at _ _ _ _ _ _ c.self.view_is c.requires c.index.ensures in
    nil_walk c.self.inside.next.items c.index.result.now.first c.index.result.now.len ∙ ap is_nil (sym (queue_is _ _ _ _ _ _ c.self.view_is at))
