use Rattle.std.proofs.Common.{All, [], ◌∷◌, sym, subst}
use Rattle.std.proofs.lemmas.List.Elements.{All-append, All-cons, All-nil}
use Rattle.drm_job.specs.Fault.{IsJob}
use Rattle.drm_gpu_tests.specs.Pairs.{pair_of}
use Rattle.drm_workers_tests.proofs.held_up.share_of.Goals as goal

pub loop-preserved : goal.loop-preserved
loop-preserved c =
    subst (All (IsJob (pair_of 8))) (sym c.in-Ok.ensures.items)
    (All-append (IsJob (pair_of 8)) c.loop.jobs.items (c.in_ok-job.job ∷ []) c.loop.invariant
    (All-cons (IsJob (pair_of 8)) c.in_ok-job.job [] c.in_ok-job.ensures.job (All-nil (IsJob (pair_of 8)))))
