use Rattle.std.proofs.Common.{rules, ◌≡◌, ◌≤◌, All, true, arith, length, refl, take, ap, ◌∙◌, subst, vec_len}
use Rattle.std.proofs.lemmas.Result.{IfOk-weaker}
use Rattle.drm_job.specs.Fault.{IsJob}
use Rattle.drm_workers.specs.declared.work.Done.{Done}
use Rattle.drm_workers.proofs.Described.{few_rings}
use Rattle.drm_workers.proofs.Running.{all_tell, all_whole, as_many, few_workers, has_run}
use Rattle.drm_workers.proofs.Sharing.{of_shares}
use Rattle.drm_workers.proofs.drive.drive.Goals as goal

pub hire_all-requires-clause-jobs : goal.hire_all-requires-clause-jobs
hire_all-requires-clause-jobs g c = of_shares (IsJob c.args.gpu.spec) (λ share. share.items) c.args.submitters c.args.jobs.items c.in-Ok.shares.items c.requires.jobs.0 c.in-Ok.ensures.shares

pub overflow_cast-result : goal.overflow_cast-result
overflow_cast-result g c =
    let rings : c.args.limits.rings ≤ 8 = let few = few_rings c.args.gpu.spec c.requires.described in omega (arith, few, c.requires.rings) in
    let few = few_workers c.args.submitters c.args.limits.rings c.args.gpu c.in-Ok.shares.items c.in-Ok-hire_all.workers.items c.in-Ok-run_workers.dones.items c.in-Ok.ensures.shares.0 c.requires.submitters.1 rings
    c.in-Ok-hire_all.ensures.jobs c.in-Ok-run_workers.ensures.worked in
    let seen = ap (λ (ds : _). length {A = Done} ds) c.deref.ensures.value in
    omega (arith, few, seen, c.in-Some.ensures.within)

pub gather-pass-requires-clause-dones : goal.gather-pass-requires-clause-dones
gather-pass-requires-clause-dones g c = all_tell c.args.gpu c.in-Ok-hire_all.workers.items c.in-Ok-run_workers.dones.items c.in-Ok-run_workers.ensures.worked

pub gather-pass-requires-clause-room : goal.gather-pass-requires-clause-room
gather-pass-requires-clause-room g c =
    let many = as_many c.args.gpu c.in-Ok-hire_all.workers.items c.in-Ok-run_workers.dones.items c.in-Ok-run_workers.ensures.worked in
    let workers : length c.in-Ok-hire_all.workers.items ≡ vec_len c.in-Ok-hire_all.workers = search rules in
    let dones : length c.in-Ok-run_workers.dones.items ≡ vec_len c.in-Ok-run_workers.dones = search rules in
    (c.in-Ok-with_capacity.ensures.items, omega (arith, many, workers, dones, c.len.ensures, c.in-Ok-with_capacity.ensures.exact))

pub returns-clause-report : goal.returns-clause-report
returns-clause-report g c =
    let jobs : length c.args.jobs.items ≡ vec_len c.args.jobs = search rules in
    let all = subst (λ ds. All (λ (d : Done). d.is_done ≡ true) ds) c.deref.ensures.value (c.first_that_gave_up.ensures.none c.in_default-first_that_gave_up.is) in
    IfOk-weaker c.take_apart.result _ _ (λ report told. told c.args.jobs.items c.args.submitters (jobs ∙ c.requires.jobs.1) (λ closed left.
    has_run c.armed_jobs_stay.ensures c.in-Ok-hire_all.pass.part c.args.gpu.spec c.args.jobs.items c.args.submitters c.args.limits.rings c.args.gpu c.in-Ok.shares.items c.in-Ok-hire_all.workers.items c.in-Ok-run_workers.dones.items
    c.gather-pass.result closed _ c.requires.submitters.0 refl c.in-Ok.ensures.shares c.in-Ok-hire_all.ensures.jobs c.in-Ok-run_workers.ensures.worked all c.gather-pass.ensures.gathered (c.in-Ok-hire_all.ensures.whole c.requires.pass.2)
    (c.truncate.ensures.items ∙ ap (take _) c.gather-pass.ensures.lists) left)) c.take_apart.ensures.report

pub take_apart-requires-clause-whole : goal.take_apart-requires-clause-whole
take_apart-requires-clause-whole g c =
    all_whole c.args.gpu c.in-Ok-hire_all.pass.part c.in-Ok-hire_all.workers.items c.in-Ok-run_workers.dones.items c.gather-pass.result c.in-Ok-run_workers.ensures.worked c.gather-pass.ensures.gathered
    (c.in-Ok-hire_all.ensures.whole c.requires.pass.2)
