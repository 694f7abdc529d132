use Rattle.std.proofs.Common.{◌<◌, length, Some, sym, ap, ◌∙◌, arith}
use Rattle.std.proofs.lemmas.Option.{slice_get-get_or}
use Rattle.drm_ring.proofs.Passing.{passed_none, passed_more, passes_before, passes_all}
use Rattle.drm_ring.proofs.pending.count_passed.Goals.{then-loop-passed-test+else-not-is_open, else-loop-passed-test}
use Rattle.drm_ring.proofs.pending.count_passed.Goals as goal

pub loop-passed-init : goal.loop-passed-init
loop-passed-init g c = passed_none _ _ _ c.requires.within

pub loop-passed-preserved : goal.loop-passed-preserved
loop-passed-preserved g c =
    let inside : c.loop-passed.passed < length c.args.pending.now.items = omega (arith, c.loop-passed-test.true, c.len.ensures) in
    passed_more _ _ _ _ c.index.result.now _ c.loop-passed.invariant (slice_get-get_or _ _ _ inside ∙ ap Some (sym c.index.ensures)) c.is_open.ensures
    c.if-not-is_open.true

pub returns : goal.returns
returns g c = elim c.loop-passed-test.branch [
  | then-loop-passed-test+else-not-is_open w ↦
      let inside : c.loop-passed.passed < length c.args.pending.now.items = omega (arith, w.loop-passed-test.true, c.len.ensures) in
      passes_before _ _ _ _ w.index.result.now _ c.loop-passed.invariant (slice_get-get_or _ _ _ inside ∙ ap Some (sym w.index.ensures)) w.is_open.ensures
      w.if-not-is_open.false
  | else-loop-passed-test w ↦ passes_all _ _ _ _ c.loop-passed.invariant (omega (arith, w.loop-passed-test.false, c.len.ensures))
]
