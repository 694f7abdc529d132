use Rattle.std.proofs.Common.{◌∙◌, sym, arith}
use Rattle.drm_lists.proofs.Places.{at_index}
use Rattle.drm_reason.proofs.RetiredJobs.{none_of_retired, none_queued, none_queued_more, queued_found}
use Rattle.drm_reason.proofs.retired.Retired.first_queued.Goals as goal

pub loop-number-init : goal.loop-number-init
loop-number-init c = none_of_retired c.args.device.now.state c.args.self c.args.ring c.requires

pub loop-number-preserved : goal.loop-number-preserved
loop-number-preserved c =
    let js = c.args.device.now.state.journal in
    let record_at = c.index-records-number.result in
    let at = at_index js c.loop-number.number record_at (rw c.records-records.ensures at c.index-records-number.is) (omega (arith, c.loop-number-test.true, c.armed-number-end.ensures)) in
    none_queued_more js c.args.ring c.loop-number.number record_at at (sym c.is_queued_for.ensures ∙ c.if-is_queued_for.false) c.loop-number.invariant

pub returns-then-is_queued_for : goal.returns-then-is_queued_for
returns-then-is_queued_for c =
    let js = c.args.device.now.state.journal in
    let record_at = c.index-records-number.result in
    let at = at_index js c.loop-number.number record_at (rw c.records-records.ensures at c.index-records-number.is) (omega (arith, c.loop-number-test.true, c.armed-number-end.ensures)) in
    queued_found js c.args.ring c.loop-number.number record_at at (sym c.is_queued_for.ensures ∙ c.if-is_queued_for.true) c.loop-number.invariant

pub returns : goal.returns
returns c = none_queued c.args.device.now.state.journal c.args.ring c.loop-number.number (omega (arith, c.loop-number-test.false, c.armed-number-end.ensures)) c.loop-number.invariant
