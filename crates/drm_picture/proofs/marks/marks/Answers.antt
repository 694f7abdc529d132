use Rattle.std.proofs.Common.{◌∙◌, arith}
use Rattle.drm_picture.specs.Marks.{marks_at}
use Rattle.drm_picture.proofs.Places.{joined_more}
use Rattle.drm_picture.proofs.marks.marks.Goals as goal

pub loop-place-preserved : goal.loop-place-preserved
loop-place-preserved c =
    c.in_ok-push_marks.ensures
    ∙ joined_more (λ p. marks_at c.args.from p.0 p.1) c.args.run.now c.loop-place.place c.index-run-place.result c.loop-place.marks.items (omega arith) c.index-run-place.is c.loop-place.invariant
