use Rattle.std.proofs.Common.{◌∙◌, refl}
use Rattle.drm_fence.specs.declared.phase.Phase.TheVariants.{Ended}
use Rattle.drm_fence.specs.Phases.{has_ended}
use Rattle.std.specs.Prelude.{not}
use Rattle.drm_state.proofs.Records.{found_by_test}
use Rattle.drm_state.proofs.Alike.{fence_tie}
use Rattle.drm_state.proofs.running.end_job.Goals as goal

pub returns-clause-tied : goal.returns-clause-tied
returns-clause-tied c =
    c.finish.ensures.list
    ∙ fence_tie c.args.journal.now.items c.args.fences.now.list c.args.number c.index_mut.result.now _ (λ s. record s { phase = Ended c.args.outcome }) c.requires.tied
    (found_by_test c.args.journal.now.items c.args.number (λ r. not (has_ended r.phase)) c.index_mut.result.now c.requires.going c.index_mut.ensures.value) refl
