use Rattle.std.proofs.Common.{◌∙◌, sym}
use Rattle.drm_reason.specs.Standing.{is_unmet}
use Rattle.drm_reason.proofs.Looks.{no_unmet_told, none_more, unmet_told}
use Rattle.drm_reason.proofs.looking.first_unmet.Goals as goal

pub loop-number-preserved : goal.loop-number-preserved
loop-number-preserved c =
    none_more c.args.records.now (is_unmet c.args.job.now) c.loop-number.number c.loop-number.invariant (sym c.waits_for.ensures ∙ c.if-waits_for.false)

pub returns-then-waits_for : goal.returns-then-waits_for
returns-then-waits_for c =
    unmet_told c.args.records.now c.args.job.now c.args.fence c.loop-number.number c.loop-number.invariant c.loop-number-test.true (sym c.waits_for.ensures ∙ c.if-waits_for.true)

pub returns : goal.returns
returns c = no_unmet_told c.args.records.now c.args.job.now c.args.fence c.loop-number.number c.loop-number.invariant c.loop-number-test.false
