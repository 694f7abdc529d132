use Rattle.std.proofs.Common.{◌∙◌, [], ◌∷◌, ◌++◌, ◌+◌, ap, arith}
use Rattle.drm_svg.specs.Layout.{placed_at}
use Rattle.drm_svg.specs.declared.placing.Placed.{Placed}
use Rattle.drm_picture.proofs.Places.{made_next}
use Rattle.drm_svg.proofs.layout.place_fences.Goals as goal

pub loop-place-preserved : goal.loop-place-preserved
loop-place-preserved c =
    c.in_ok-push.ensures.items
    ∙ ap (λ (p : Placed). c.loop-place.placed.items ++ p ∷ []) c.bar_in_row.ensures.value
    ∙ made_next (λ p. placed_at c.args.picture.now (c.args.header + 1 + p.0) p.1) c.args.fences.now c.loop-place.place _ c.loop-place.placed.items (omega arith) c.loop-place.invariant
