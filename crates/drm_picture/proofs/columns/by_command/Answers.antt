use Rattle.std.proofs.Common.{◌∙◌, ℕ, arith}
use Rattle.drm_picture.proofs.Places.{made_next}
use Rattle.drm_core.specs.declared.event.Event.{Event}
use Rattle.drm_picture.proofs.columns.by_command.Goals as goal

pub loop-place-preserved : goal.loop-place-preserved
loop-place-preserved c =
    c.in_ok-push.ensures.items
    ∙ made_next (λ (p : ℕ × Event ℕ). p.0) c.args.commands.now c.loop-place.place c.index-commands-place.result c.loop-place.lefts.items (omega arith) c.loop-place.invariant
