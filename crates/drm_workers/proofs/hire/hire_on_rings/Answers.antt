use Rattle.std.proofs.Common.{◌≡◌, ◌∙◌, ◌+◌, List, [], ◌∷◌, ◌++◌, map, replicate, ap}
use Rattle.std.proofs.lemmas.List.{replicate-append-replicate}
use Rattle.drm_job.specs.declared.Draft.{Draft}
use Rattle.drm_workers.specs.Works.{jobs_of}
use Rattle.drm_workers.proofs.Hiring.{hires_then}
use Rattle.drm_workers.proofs.hire.hire_on_rings.Goals as goal

pub loop-ring-preserved : goal.loop-ring-preserved
loop-ring-preserved c =
    let ring = c.loop-ring.ring in let duty = c.duty_on.result in
    let all = hires_then c.args.gpu.now (replicate ring []) (jobs_of duty ∷ []) c.args.workers.now.items c.loop-ring.workers.items c.hire.new.workers.items c.loop-ring.invariant.0 c.in_ok-pass.ensures.hired in
    let lists : replicate {A = List Draft} ring [] ++ jobs_of duty ∷ [] ≡ replicate (ring + 1) [] =
    ap (λ js. replicate {A = List Draft} ring [] ++ js ∷ []) c.duty_on.ensures.jobs ∙ replicate-append-replicate {A = List Draft} ring 1 [] in
    ((all.0 ∙ ap (λ js. map (λ w. jobs_of w.duty) c.args.workers.now.items ++ js) lists, all.1), c.in_ok-pass.ensures.pass.0, c.in_ok-pass.ensures.pass.1, λ whole. c.in_ok-pass.ensures.whole (c.loop-ring.invariant.3 whole))
