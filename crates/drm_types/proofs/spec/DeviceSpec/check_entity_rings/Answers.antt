use Rattle.std.proofs.Common.{ap, ◌∙◌, length}
use Rattle.std.specs.Prelude.{not, position}
use Rattle.drm_types.specs.Limits.{are_rings}
use Rattle.drm_types.proofs.FirstLaws.{each_told}
use Rattle.drm_types.proofs.spec.DeviceSpec.check_entity_rings.Goals as goal

pub returns : goal.returns
returns c =
    each_told _ _ (λ entity. are_rings (length c.args.self.now.rings) entity.rings) _ _ _
    (c.bad_rings.ensures.place ∙ ap (λ n. position (λ entity. not (are_rings n entity.rings)) c.as_slice.result.now) c.len.ensures) c.as_slice.ensures c.each.ensures
