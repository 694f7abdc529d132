use Rattle.std.proofs.Common.{◌∙◌, ap, length, sym}
use Rattle.drm_resv.specs.Stored.{ListsWithPlaces}
use Rattle.drm_resv.proofs.EndsAre.{length-lists_from}
use Rattle.drm_resv.proofs.stored.StoredDeps.len.Goals as goal

pub returns : goal.returns
returns c =
    let own = c.self.inside in
    c.len.ensures ∙ own.ends.ok.0 ∙ sym (length-lists_from own.fences.items 0 own.ends.items) ∙ ap (λ (v : ListsWithPlaces). length v.lists) c.self.view_is
