use Rattle.std.proofs.Common.{rules, ◌≡◌, ◌∙◌, [], ◌∷◌, ◌++◌, length, sym, ap, subst}
use Rattle.std.proofs.lemmas.List.Elements.{All-rest}
use Rattle.std.specs.Vec.Iter.{into_iter_items}
use Rattle.drm_job.specs.Fault.{IsJob}
use Rattle.drm_gpu.specs.Laws.{reflexive, transitive}
use Rattle.drm_workers.specs.Jobs.{AreJobsOf}
use Rattle.drm_workers.proofs.Arming.{job_stays}
use Rattle.drm_workers.proofs.Lists.{none_left, one_more, unit}
use Rattle.drm_workers.proofs.submit.submit_all.Goals as goal

pub loop-job-preserved : goal.loop-job-preserved
loop-job-preserved g c =
    let was = c.loop-job.invariant in let step = c.in-Some.ensures.steps in let h = c.in-Ok.ensures.0 in
    let all = c.args.jobs.items in let new = c.in-Ok.same in let fence = c.in-Ok.fence in (
      h.gpu ∙ was.0,
      h.armed ∙ (ap (λ ns. ns ++ fence ∷ []) was.1 ∙ sym c.push_reserved.ensures.items),
      All-rest (IsJob c.args.gpu.now.spec) _ _ _ step.0 was.2,
      (λ d ns g k. subst (λ xs. AreJobsOf d.state.journal (xs ++ ns) all) (sym c.push_reserved.ensures.items)
          (subst (λ xs. AreJobsOf d.state.journal xs all) (sym (one_more c.loop-job.armed.items fence ns))
          (was.3 d (fence ∷ ns) (transitive c.loop-job.pass.last new.last d h.later g)
          (subst (λ js. AreJobsOf d.state.journal (fence ∷ ns) js) (sym step.0) (job_stays c.armed_jobs_stay.ensures new.last d fence c.in-Some.job g c.in-Ok.ensures.1, k))))),
      search rules,
      h.part ∙ was.5,
    )

pub returns-clause-jobs : goal.returns-clause-jobs
returns-clause-jobs g c done =
    let was = c.loop-job.invariant in let it = c.loop-job.job-iterator in let last = c.loop-job.pass.last in
    let few : length (into_iter_items it) ≡ 0 = search rules in
    subst (λ xs. AreJobsOf last.state.journal xs c.args.jobs.items) (unit c.loop-job.armed.items)
    (was.3 last [] (reflexive last) (subst (λ js. AreJobsOf last.state.journal [] js) (sym (none_left (into_iter_items it) few)) tt))
