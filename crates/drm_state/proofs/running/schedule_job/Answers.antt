use Rattle.std.proofs.Common.{◌∙◌, refl}
use Rattle.drm_fence.specs.declared.phase.Phase.TheVariants.{Scheduled}
use Rattle.drm_fence.specs.Phases.{is_queued}
use Rattle.drm_state.proofs.Alike.{fence_tie}
use Rattle.drm_state.proofs.Records.{found_by_test}
use Rattle.drm_state.proofs.running.schedule_job.Goals as goal

pub returns-clause-tied : goal.returns-clause-tied
returns-clause-tied c =
    c.schedule.ensures.list
    ∙ fence_tie c.args.journal.now.items c.args.fences.now.list c.args.number c.index_mut-record.result.now _ (λ s. record s { phase = Scheduled }) c.requires.tied
    (found_by_test c.args.journal.now.items c.args.number (λ r. is_queued r.phase) c.index_mut-record.result.now c.requires.queued c.index_mut-record.ensures.value) refl
