use Rattle.std.proofs.Common.{List, ap, ◌∙◌, sym, take}
use Rattle.std.proofs.lemmas.List.{take_all}
use Rattle.drm_trace.specs.declared.event.Event.{Event}
use Rattle.drm_rules.specs.Lines.{first_in}
use Rattle.drm_rules.specs.Rules.{unmet}
use Rattle.drm_rules.proofs.Judged.{seen_on}
use Rattle.drm_rules.proofs.Passing.{first_follows}
use Rattle.drm_rules.proofs.waits.unmet_waits.Goals as goal

pub loop-event-preserved : goal.loop-event-preserved
loop-event-preserved c = λ job.
    let i = c.loop-event.event-index in
    let lane = unmet c.args.tolerance c.args.index.now in
    first_follows lane (take i c.log-log.result.now) _ _ _ (rw c.unmet_job.ensures at c.in_ok-note_first.ensures) c.loop-event.invariant job
    ∙ ap (λ (seen : List Event). first_in lane seen job) (seen_on c.log-log.result.now i _ c.loop-event-test.true)

pub returns : goal.returns
returns c = λ job.
    let lane = unmet c.args.tolerance c.args.index.now in
    c.loop-event.invariant job
    ∙ ap (λ (seen : List Event). first_in lane seen job) (take_all c.loop-event.event-index c.log-log.result.now c.loop-event-test.false ∙ c.log-log.ensures)
