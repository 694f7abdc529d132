use Rattle.std.proofs.Common.{List, ap, take, ◌∙◌}
use Rattle.drm_trace.specs.declared.event.Event.{Event}
use Rattle.drm_rules.proofs.Judged.{seen_on}
use Rattle.drm_conform.specs.Times.{latest_release}
use Rattle.drm_conform.proofs.Timed.{release_follows}
use Rattle.drm_conform.proofs.times.releases.Goals as goal

pub loop-event-preserved : goal.loop-event-preserved
loop-event-preserved c = λ job.
    let i = c.loop-event.event-index in
    let lines = c.log-log.result.now in
    release_follows c.args.index.now (take i lines) _ _ _ (rw (c.waiting_job.ensures, c.release.ensures) at c.in_ok-note_greatest.ensures) c.loop-event.invariant job
    ∙ ap (λ (seen : List Event). latest_release c.args.index.now seen job) (seen_on lines i _ c.loop-event-test.true)
