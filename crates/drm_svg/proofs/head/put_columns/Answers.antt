use Rattle.std.proofs.Common.{◌∙◌, ◌<◌, ℕ, List, ap, get_or, length, subst}
use Rattle.drm_core.specs.declared.event.Event.{Event}
use Rattle.drm_picture.proofs.Moments.{last_more}
use Rattle.drm_picture.specs.Commands.{moment_of}
use Rattle.drm_svg.specs.Head.{column_in}
use Rattle.drm_svg.proofs.Columns.{column_is}
use Rattle.drm_svg.proofs.Pens.{adds_same, adds_told, all_put}
use Rattle.drm_svg.proofs.head.put_columns.Goals as goal

pub loop-place-preserved : goal.loop-place-preserved
loop-place-preserved c =
    let picture = c.args.picture.now in
    let columns = picture.columns.items in
    let place = c.loop-place.place in
    let d = c.command-item.result in
    let same = c.deref-command-items.ensures.value in
    let within = subst (λ (l : List (Event ℕ)). place < length l) same c.loop-place-test.true in
    let is = c.command-item.is ∙ ap (λ (l : List (Event ℕ)). get_or l place d) same in
    let text = column_is picture place c.column_at-column.result c.loop-place.told d d c.column_at-column.ensures c.loop-place.invariant.told is in
    record {
      written = adds_told (column_in picture) columns place d within c.loop-place.invariant.written (adds_same text c.in_ok-put_column.ensures);
      told = c.or-told.ensures ∙ last_more columns place d c.moment.result c.loop-place.told within (c.moment.ensures ∙ ap moment_of is) c.loop-place.invariant.told;
    }
