use Rattle.std.proofs.Common.{◌∙◌, sym}
use Rattle.drm_reason.specs.Reasons.{is_going}
use Rattle.drm_reason.proofs.Looks.{no_going_told, none_more, going_told}
use Rattle.drm_reason.proofs.looking.first_going.Goals as goal

pub loop-number-preserved : goal.loop-number-preserved
loop-number-preserved c =
    none_more c.args.records.now (is_going c.args.job.now) c.loop-number.number c.loop-number.invariant (sym c.ends_after.ensures ∙ c.if-ends_after.false)

pub returns-then-ends_after : goal.returns-then-ends_after
returns-then-ends_after c =
    going_told c.args.records.now c.args.job.now c.args.fence c.loop-number.number c.loop-number.invariant c.loop-number-test.true (sym c.ends_after.ensures ∙ c.if-ends_after.true)

pub returns : goal.returns
returns c = no_going_told c.args.records.now c.args.job.now c.args.fence c.loop-number.number c.loop-number.invariant c.loop-number-test.false
