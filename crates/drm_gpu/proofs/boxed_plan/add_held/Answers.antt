use Rattle.std.proofs.Common.{◌∙◌, sym, ap, subst, ◌++◌, ◌∷◌, []}
use Rattle.drm_resv.specs.Entries.{entries_of}
use Rattle.drm_resv.specs.Noting.{all_noted}
use Rattle.drm_state.specs.Collected.{IsCollected}
use Rattle.drm_state.proofs.Collected.{collected_used, collected_unused}
use Rattle.drm_gpu.proofs.boxed_plan.add_held.Goals as goal

pub returns-in-Some : goal.returns-in-Some
returns-in-Some c held is =
    let b = c.args.buffer in
    let x = c.args.resv.now.kept in
    subst (IsCollected c.args.job.now (held ++ (b, x) ∷ [])) (sym (c.collect.ensures ∙ ap (λ u. all_noted c.args.deps.now (entries_of u x.entries)) c.wanted.ensures))
    (collected_used c.args.job.now held c.args.deps.now b x c.in-Some.access (sym c.access_of.ensures ∙ c.in-Some.is) is)

pub returns-in_default : goal.returns-in_default
returns-in_default c held is =
    collected_unused c.args.job.now held c.args.deps.now c.args.buffer c.args.resv.now.kept (sym c.access_of.ensures ∙ c.in_default.is) is
