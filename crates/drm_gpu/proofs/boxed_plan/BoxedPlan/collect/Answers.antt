use Rattle.std.proofs.Common.{◌≡◌, ◌∙◌, Some, ap, sym, subst}
use Rattle.drm_job.specs.declared.Draft.{Draft}
use Rattle.drm_state.specs.declared.plans.Plan.{Plan}
use Rattle.drm_state.specs.Collected.{CoverWhereFit, IsCollected}
use Rattle.drm_state.specs.Held.{HoldsAll, kept_of}
use Rattle.drm_gpu.specs.declared.boxed_plan.Contents.{Contents}
use Rattle.drm_gpu.proofs.boxed_plan.BoxedPlan.collect.Goals as goal

pub returns-clause-collected : goal.returns-clause-collected
returns-clause-collected c =
    let both : Some c.in-Some.job ≡ Some c.self.inside.told.value = sym c.in-Some.is ∙ (ap (λ (x : Contents). x.job) c.deref_mut-contents.ensures.value ∙ c.self.invariant) in
    let told : c.in-Some.job ≡ c.self.inside.told.value = cc (both) in
    let same : c.in-Some.job ≡ c.args.self.now.job = told ∙ ap (λ (p : Plan). p.job) c.self.view_is in
    subst (λ (j : Draft). IsCollected j (kept_of c.args.held.now) c.collect_held.new.deps) same c.collect_held.ensures.collected

pub returns-clause-covers : goal.returns-clause-covers
returns-clause-covers c =
    let both : Some c.in-Some.job ≡ Some c.self.inside.told.value = sym c.in-Some.is ∙ (ap (λ (x : Contents). x.job) c.deref_mut-contents.ensures.value ∙ c.self.invariant) in
    let told : c.in-Some.job ≡ c.self.inside.told.value = cc (both) in
    let same : c.in-Some.job ≡ c.args.self.now.job = told ∙ ap (λ (p : Plan). p.job) c.self.view_is in
    subst (λ (j : Draft). HoldsAll j (kept_of c.args.held.now) → CoverWhereFit j (kept_of c.args.held.now) c.collect_held.new.deps) same c.collect_held.ensures.covers
