use Rattle.std.proofs.Common.{◌∙◌, sym, ap, subst, ◌++◌, ◌∷◌, []}
use Rattle.drm_lists.proofs.Places.{place_of}
use Rattle.drm_resv.specs.Entries.{entries_of}
use Rattle.drm_resv.specs.Noting.{all_noted}
use Rattle.drm_state.specs.Collected.{IsCollected}
use Rattle.drm_state.proofs.Collected.{collected_used}
use Rattle.drm_state.proofs.Covering.{declared_used}
use Rattle.drm_state.proofs.plans.add_dependencies.Goals as goal

pub returns : goal.returns
returns c spec job held b is declared before =
    let x = c.args.resv.now.kept in
    let p = place_of job.declared (b, c.args.access) declared in
    subst (IsCollected job (held ++ (b, x) ∷ [])) (sym (c.collect.ensures ∙ ap (λ u. all_noted c.args.deps.now (entries_of u x.entries)) c.wanted.ensures))
    (collected_used job held c.args.deps.now b x c.args.access (declared_used c.jobs_are_the_sound_drafts.ensures spec job p.0 (b, c.args.access) is p.1) before)
