use Rattle.std.proofs.Common.{◌∙◌, arith, subst, sym}
use Rattle.std.specs.List.{All}
use Rattle.std.specs.List.Sorted.{IsNonDecreasingBy}
use Rattle.drm_picture.specs.Latest.{EndsIn}
use Rattle.drm_picture.specs.declared.bars.Bar.{Bar}
use Rattle.drm_picture.proofs.Fences.{fences-end, fences-rise}
use Rattle.drm_picture.specs.Waiting.{waiting_from}
use Rattle.drm_picture.proofs.Places.{joined_more}
use Rattle.drm_picture.proofs.waiting.waiting.Goals as goal

pub loop-place-preserved : goal.loop-place-preserved
loop-place-preserved c =
    c.in_ok-push_waiting_from.ensures
    ∙ joined_more (waiting_from c.args.run.now c.args.fences.now) c.args.run.now c.loop-place.place c.index-run-place.result c.loop-place.bars.items (omega arith) c.index-run-place.is c.loop-place.invariant

pub push_waiting_from-requires-clause-ends : goal.push_waiting_from-requires-clause-ends
push_waiting_from-requires-clause-ends c = subst (All (EndsIn c.args.run.now)) (sym c.requires.fences) (fences-end c.args.from c.args.run.now)

pub push_waiting_from-requires-clause-rise : goal.push_waiting_from-requires-clause-rise
push_waiting_from-requires-clause-rise c = subst (IsNonDecreasingBy (λ (bar : Bar). bar.from)) (sym c.requires.fences) (fences-rise c.args.from c.args.run.now)
