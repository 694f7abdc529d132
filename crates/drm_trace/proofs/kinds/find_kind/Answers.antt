use Rattle.std.proofs.Common.{sym, ◌∙◌}
use Rattle.drm_trace.proofs.Marks.{kind_here, kind_later, kind_nowhere}
use Rattle.drm_trace.proofs.kinds.find_kind.Goals as goal

pub returns-then-begins_with-clause-value : goal.returns-then-begins_with-clause-value
returns-then-begins_with-clause-value c =
    kind_here c.args.bytes.now c.mark.result.now c.loop-kind.kind-index _ c.loop-kind-test.true c.mark.ensures (sym c.begins_with.ensures.value ∙ c.if-begins_with.true) c.loop-kind.invariant

pub loop-kind-preserved : goal.loop-kind-preserved
loop-kind-preserved c =
    sym (kind_later c.args.bytes.now c.mark.result.now c.loop-kind.kind-index _ c.loop-kind-test.true c.mark.ensures (sym c.begins_with.ensures.value ∙ c.if-begins_with.false))
    ∙ c.loop-kind.invariant

pub returns-clause-value : goal.returns-clause-value
returns-clause-value c = kind_nowhere c.args.bytes.now c.loop-kind.kind-index c.loop-kind-test.false c.loop-kind.invariant
