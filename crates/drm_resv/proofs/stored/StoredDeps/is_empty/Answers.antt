use Rattle.std.proofs.Common.{◌∙◌, ◌==◌, ap, length, sym}
use Rattle.drm_resv.specs.Stored.{ListsWithPlaces}
use Rattle.drm_resv.proofs.EndsAre.{length-lists_from}
use Rattle.drm_resv.proofs.stored.StoredDeps.is_empty.Goals as goal

pub returns : goal.returns
returns c =
    let own = c.self.inside in
    c.is_empty.ensures ∙ ap (λ n. n == 0) (own.ends.ok.0 ∙ sym (length-lists_from own.fences.items 0 own.ends.items) ∙ ap (λ (v : ListsWithPlaces). length v.lists) c.self.view_is)
