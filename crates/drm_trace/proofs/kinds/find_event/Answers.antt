use Rattle.std.proofs.Common.{sym, ◌∙◌}
use Rattle.drm_trace.proofs.Marks.{event_next, no_kind_here}
use Rattle.drm_trace.proofs.kinds.find_event.Goals as goal

pub loop-at-preserved-then-bytes-at-ne58 : goal.loop-at-preserved-then-bytes-at-ne58
loop-at-preserved-then-bytes-at-ne58 c =
    sym (event_next c.args.bytes.now c.loop-at.at c.loop-at-test.true (no_kind_here c.args.bytes.now c.loop-at.at c.loop-at-test.true c.if-bytes-at-ne58.true))
    ∙ c.loop-at.invariant
