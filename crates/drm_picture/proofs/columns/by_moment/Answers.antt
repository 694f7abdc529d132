use Rattle.std.proofs.Common.{◌∙◌, ◌+◌, ◌/◌, ℕ, [], ◌∷◌, ◌++◌, ap, arith}
use Rattle.drm_core.specs.declared.event.Event.{Event}
use Rattle.drm_picture.specs.Columns.{column_at}
use Rattle.drm_picture.specs.Commands.{moment_of}
use Rattle.drm_picture.specs.declared.columns.Scale.TheVariants as scale
use Rattle.drm_picture.proofs.Moments.{few_before, passed_in, period_more}
use Rattle.drm_picture.proofs.Places.{made_next}
use Rattle.drm_picture.proofs.columns.by_moment.Goals as goal

pub overflow_add-place : goal.overflow_add-place
overflow_add-place c =
    let commands = c.args.commands.now in
    let place = c.loop-place.place in
    let told = c.moment.ensures ∙ ap moment_of c.index-commands-place.is in
    let period = period_more commands place c.index-commands-place.result _ _ c.with-period.result (omega arith) told c.loop-place.invariant.period c.with-period.ensures in
    let passed = passed_in _ c.with-period.result c.duration.result period c.duration.ensures in
    omega (arith, few_before commands c.index-commands-place.result place c.duration.result c.args.unit (omega arith) c.requires.unit c.requires.rise passed)

pub loop-place-preserved : goal.loop-place-preserved
loop-place-preserved c =
    let commands = c.args.commands.now in
    let place = c.loop-place.place in
    let told = c.moment.ensures ∙ ap moment_of c.index-commands-place.is in
    let period = period_more commands place c.index-commands-place.result _ _ c.with-period.result (omega arith) told c.loop-place.invariant.period c.with-period.ensures in
    let passed = passed_in _ c.with-period.result c.duration.result period c.duration.ensures in
    record {
      period = period;
      placed =
          c.in_ok-push.ensures.items
          ∙ ap (λ (n : ℕ). c.loop-place.lefts.items ++ (place + n / c.args.unit) ∷ []) passed
          ∙ made_next (λ (p : ℕ × Event ℕ). column_at (scale.Moment c.args.unit) commands p.0) commands place c.index-commands-place.result c.loop-place.lefts.items (omega arith) c.loop-place.invariant.placed;
    }
