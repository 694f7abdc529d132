use Rattle.std.proofs.Common.{◌∙◌, ap, arith}
use Rattle.drm_picture.specs.Commands.{moment_of}
use Rattle.drm_picture.proofs.Moments.{period_more}
use Rattle.drm_picture.proofs.columns.period_of.Goals as goal

pub loop-command-preserved : goal.loop-command-preserved
loop-command-preserved c =
    let told = c.moment.ensures ∙ ap moment_of c.command-item.is in
    period_more c.args.commands.now c.loop-command.command-index c.command-item.result _ _ _ (omega arith) told c.loop-command.invariant c.with-period.ensures
