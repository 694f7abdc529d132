use Rattle.std.proofs.Common.{sym, subst}
use Rattle.drm_job.specs.Ranges.{RunsIn}
use Rattle.drm_serial.proofs.Sizes.{runs_by_sizes}
use Rattle.drm_serial.proofs.serial.Serial.run.Goals as goal

pub take-requires : goal.take-requires
take-requires c =
    runs_by_sizes c.turn-item.result.job c.loop-turn.machine c.args.initial.now c.loop-turn.invariant.1
    (subst (λ turn. RunsIn c.args.initial.now turn.job) (sym c.turn-item.is)
    (c.requires c.loop-turn.turn-index c.turn-item.result c.loop-turn-test.true))
