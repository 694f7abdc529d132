use Rattle.std.proofs.Common.{◌∙◌, List, ◌++◌, All, Vec, Global, map, sym, ap}
use Rattle.std.proofs.lemmas.List.Elements.{All-rest}
use Rattle.std.specs.Vec.Iter.{into_iter_items}
use Rattle.drm_job.specs.Fault.{IsJob}
use Rattle.drm_job.specs.declared.Draft.{Draft}
use Rattle.drm_job.specs.declared.job.Job.{Job}
use Rattle.drm_workers.specs.declared.work.Worker.{Worker}
use Rattle.drm_workers.specs.Works.{jobs_of}
use Rattle.drm_workers.proofs.Lists.{one_more}
use Rattle.drm_workers.proofs.hire.hire_submitters.Goals as goal

abbrev lists : List (Vec Job Global) → List (List Draft)
lists shares = map (λ share. share.items) shares

pub loop-jobs-preserved : goal.loop-jobs-preserved
loop-jobs-preserved c =
    let was = c.loop-jobs.invariant in let step = c.in-Some.ensures.steps in let hired = c.in_ok-pass.ensures.hired in
    let before : List (List Draft) = map (λ (w : Worker). jobs_of w.duty) c.loop-jobs.workers.items in let rest = into_iter_items c.next.new.self in (
      c.in_ok-pass.ensures.pass.0,
      c.in_ok-pass.ensures.pass.1,
      All-rest (λ share. All (IsJob c.args.gpu.now.spec) share.items) _ _ _ step.0 was.2,
      ap (λ js. js ++ lists rest) hired.0 ∙ (one_more before c.in-Some.jobs.items (lists rest) ∙ (ap (λ ss. before ++ lists ss) (sym step.0) ∙ was.3)),
      (λ all. hired.1 (was.4 all)),
      λ whole. c.in_ok-pass.ensures.whole (was.5 whole),
    )
