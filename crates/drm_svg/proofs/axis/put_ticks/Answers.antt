use Rattle.std.proofs.Common.{◌∙◌, ◌++◌, ◌<◌, ℕ, List, ap, get_or, length, subst}
use Rattle.drm_core.specs.declared.event.Event.{Event}
use Rattle.drm_picture.proofs.Moments.{last_more}
use Rattle.drm_picture.specs.Commands.{moment_of}
use Rattle.drm_svg.specs.Axis.{tick_in}
use Rattle.drm_svg.proofs.Columns.{tick_is}
use Rattle.drm_svg.proofs.Places.{told_behind}
use Rattle.drm_svg.proofs.axis.put_ticks.Goals as goal

pub loop-place-preserved : goal.loop-place-preserved
loop-place-preserved c =
    let picture = c.args.picture.now in
    let columns = picture.columns.items in
    let place = c.loop-place.place in
    let d = c.command-item.result in
    let same = c.deref-command-items.ensures.value in
    let within = subst (λ (l : List (Event ℕ)). place < length l) same c.loop-place-test.true in
    let now = c.moment-now.ensures ∙ ap moment_of (c.command-item.is ∙ ap (λ (l : List (Event ℕ)). get_or l place d) same) in
    let text = tick_is picture place c.column_at.result c.loop-place.told c.moment-now.result c.differing.result d c.column_at.ensures c.differing.ensures c.loop-place.invariant.told now in
    record {
      written =
          told_behind (tick_in picture) columns place d c.args.out.now.items c.loop-place.out.items c.put_tick.new.out.items within c.loop-place.invariant.written
          (c.in_ok-put_tick.ensures ∙ ap (λ (l : List ℕ). c.loop-place.out.items ++ l) text);
      told = c.or-told.ensures ∙ last_more columns place d c.moment-now.result c.loop-place.told within now c.loop-place.invariant.told;
    }
