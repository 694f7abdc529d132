use Rattle.std.proofs.Common.{rules, ◌≡◌, sym, subst}
use Rattle.std.specs.Prelude.{All}
use Rattle.drm_job.specs.Ranges.{RunsIn}
use Rattle.drm_serial.proofs.Sizes.{runs_by_sizes}
use Rattle.drm_journal.proofs.running.run_read.Goals as goal

pub take-requires : goal.take-requires
take-requires c =
    let items : c.deref-armed-items.result.now ≡ c.args.reading.now.jobs = search rules in
    let run : All (λ armed. RunsIn c.args.machine.now armed.job) c.deref-armed-items.result.now =
    subst (All (λ armed. RunsIn c.args.machine.now armed.job)) (sym items) c.requires in
    runs_by_sizes c.armed-item.result.job c.loop-armed.machine c.args.machine.now c.loop-armed.invariant.sizes
    (subst (λ armed. RunsIn c.args.machine.now armed.job) (sym c.armed-item.is) (run c.loop-armed.armed-index c.armed-item.result c.loop-armed-test.true))
