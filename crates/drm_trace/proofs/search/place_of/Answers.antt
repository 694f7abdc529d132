use Rattle.std.proofs.Common.{◌≡◌, true, false, drop, sym, ◌∙◌}
use Rattle.drm_trace.specs.Bytes.{begins_with}
use Rattle.drm_trace.proofs.Marks.{place_here, place_next}
use Rattle.drm_trace.proofs.search.place_of.Goals as goal

pub returns-then-begins_with-clause-value : goal.returns-then-begins_with-clause-value
returns-then-begins_with-clause-value c =
    let first : begins_with c.args.mark.now (drop c.loop-at.at c.args.bytes.now) ≡ true = cc (c.split_at.ensures.back, c.begins_with.ensures.value, c.if-begins_with.true) in
    sym (place_here c.args.mark.now c.args.bytes.now c.loop-at.at c.loop-at-test.true first) ∙ c.loop-at.invariant

pub loop-at-preserved : goal.loop-at-preserved
loop-at-preserved c =
    let other : begins_with c.args.mark.now (drop c.loop-at.at c.args.bytes.now) ≡ false = cc (c.split_at.ensures.back, c.begins_with.ensures.value, c.if-begins_with.false) in
    sym (place_next c.args.mark.now c.args.bytes.now c.loop-at.at c.loop-at-test.true other) ∙ c.loop-at.invariant
