use Rattle.std.proofs.Common.{◌≡◌, ◌∙◌, ◌∷◌, [], ◌++◌, ◌+◌, ◌-◌, ◌<◌, List, Option, ap, arith, drop, length, refl, reverse, subst, sym}
use Rattle.std.specs.List.{cons_option}
use Rattle.std.proofs.lemmas.List.{drop_more, with_items_is}
use Rattle.drm_picture.specs.Bars.{bar_at, kept_beyond}
use Rattle.drm_picture.specs.Ends.{AreNext, ended_number, noted}
use Rattle.drm_picture.specs.declared.bars.Bar.{Bar}
use Rattle.drm_picture.specs.Packets.{AreCounted, counted_by}
use Rattle.drm_picture.specs.declared.command.Step.{Step}
use Rattle.drm_picture.proofs.Nexts.{length_noted, next_noted}
use Rattle.drm_picture.proofs.Counting.{counted_more, length_counted}
use Rattle.drm_picture.proofs.Places.{kept_before}
use Rattle.drm_picture.proofs.bars.bars.Goals as goal

pub loop-place-preserved : goal.loop-place-preserved
loop-place-preserved c =
    let run = c.args.run.now in
    let place = c.loop-place.place - 1 in
    let step = c.index-run-place.result in
    let next = c.loop-place.next.items in
    let within : place < length run = omega arith in
    let last : place + 1 ≡ c.loop-place.place = omega arith in
    let split : drop place run ≡ step ∷ drop (place + 1) run = drop_more run place step within ∙ ap (λ x. x ∷ drop (place + 1) run) (sym c.index-run-place.is) in
    let found = ended_number c.args.kind step in
    let written : c.note_end.new.next ≡ noted found place next = c.note_end.ensures ∙ ap (noted found place) c.deref_mut.ensures.value in
    let whole : length c.note_end.new.next ≡ c.loop-place.next.len = omega (arith, ap length written, length_noted found place next) in
    let before : AreNext c.args.kind run (place + 1) next = rw last c.loop-place.invariant.next in
    let ran = c.loop-place.ran.items in
    let counted : AreCounted c.args.kind (drop (place + 1) run) ran = rw last c.loop-place.invariant.counted in
    let noted_packet : c.note_packet.new.counts ≡ counted_by step.answer ran = c.note_packet.ensures ∙ ap (counted_by step.answer) c.deref_mut-in-loop-place.ensures.value in
    let many : length c.note_packet.new.counts ≡ c.loop-place.ran.len = omega (arith, ap length noted_packet, length_counted step.answer ran) in
    record {
      counted = subst (AreCounted c.args.kind (drop place run)) (sym (with_items_is c.loop-place.ran c.note_packet.new.counts many ∙ noted_packet)) (subst (λ (l : List Step). AreCounted c.args.kind l (counted_by step.answer ran)) (sym split) (counted_more c.args.kind step (drop (place + 1) run) ran counted));
      next = subst (AreNext c.args.kind run place) (sym (with_items_is c.loop-place.next c.note_end.new.next whole ∙ written)) (next_noted c.args.kind run place step next found refl split before);
      bars =
          ap reverse (c.in_ok-push_bar.ensures ∙ ap (λ (o : Option Bar). c.loop-place.bars.items ++ cons_option o []) c.bar_beyond.ensures)
          ∙ kept_before (λ p. kept_beyond c.args.from (bar_at c.args.kind run p)) run place step c.loop-place.bars.items split (rw last c.loop-place.invariant.bars);
    }
