use Rattle.std.proofs.Common.{◌∙◌, List, ap, arith, refl}
use Rattle.drm_picture.specs.declared.command.Request.{Request}
use Rattle.drm_svg.specs.Layout.{column_at}
use Rattle.drm_draw.specs.Levels.{level_behind}
use Rattle.drm_draw.proofs.Turns.{turns_more}
use Rattle.drm_draw.proofs.credits.put_turns.Goals as goal

pub loop-place-preserved : goal.loop-place-preserved
loop-place-preserved c = record {
  level = omega (arith, c.loop-place.invariant.level, c.next_level-next.ensures.most);
  text =
      turns_more c.args.ring c.args.limit c.args.picture.now c.args.row c.loop-place.place (column_at c.args.picture.now c.loop-place.place) c.loop-place.before c.next_level-next.result c.args.part.now c.index-part-place.result c.loop-place.out.items _ _
      (omega arith) c.index-part-place.is refl
      (c.next_level-next.ensures.value ∙ ap (λ (armed : List Request). level_behind c.args.ring c.args.limit armed c.loop-place.before c.index-part-place.result) c.deref.ensures.value)
      c.loop-place.invariant.text c.in_ok-put_turn_to.ensures;
}
