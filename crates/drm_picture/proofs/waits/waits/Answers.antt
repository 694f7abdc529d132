use Rattle.std.proofs.Common.{◌∙◌, arith, subst, sym}
use Rattle.std.specs.List.Sorted.{IsNonDecreasingBy}
use Rattle.drm_picture.specs.declared.bars.Bar.{Bar}
use Rattle.drm_picture.proofs.Fences.{fences-rise}
use Rattle.drm_picture.specs.Waits.{waits_at}
use Rattle.drm_picture.proofs.Places.{joined_more}
use Rattle.drm_picture.proofs.waits.waits.Goals as goal

pub loop-place-preserved : goal.loop-place-preserved
loop-place-preserved c =
    c.in_ok-push_waits_at.ensures
    ∙ joined_more (waits_at c.args.from c.args.run.now c.args.fences.now) c.args.run.now c.loop-place.place c.index-run-place.result c.loop-place.waits.items (omega arith) c.index-run-place.is c.loop-place.invariant

pub push_waits_at-requires-clause-rise : goal.push_waits_at-requires-clause-rise
push_waits_at-requires-clause-rise c = subst (IsNonDecreasingBy (λ (bar : Bar). bar.from)) (sym c.requires.fences) (fences-rise c.args.from c.args.run.now)
