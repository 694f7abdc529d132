use Rattle.std.proofs.Common.{◌++◌, arith}
use Rattle.drm_lists.proofs.Places.{at_index}
use Rattle.drm_why.specs.Lines.{spans_text}
use Rattle.drm_why.proofs.Spans.{span_more, spans_end}
use Rattle.drm_why.proofs.lines.put_spans.Goals as goal

pub loop-number-preserved : goal.loop-number-preserved
loop-number-preserved c =
    let changes = c.args.changes.now in
    let number = c.loop-number.number in
    let change = c.index-changes-number.result in
    let at = at_index changes number change c.index-changes-number.is (omega (arith, c.loop-number-test.true)) in
    span_more changes c.args.place c.args.clock number change (c.args.out.now.items ++ spans_text c.args.place c.args.clock changes) c.loop-number.out.items
    c.put_span_at.new.out.items at c.in_ok-put_span_at.ensures c.loop-number.invariant

pub returns : goal.returns
returns c =
    let changes = c.args.changes.now in
    spans_end changes c.args.place c.args.clock c.loop-number.number (c.args.out.now.items ++ spans_text c.args.place c.args.clock changes) c.loop-number.out.items
    (omega (arith, c.loop-number-test.false)) c.loop-number.invariant
