use Rattle.std.proofs.Common.{rules, All, Global, Vec, [], ◌∷◌, sym, subst}
use Rattle.std.proofs.lemmas.List.Elements.{All-append, All-cons, All-nil}
use Rattle.drm_job.specs.declared.job.Job.{Job}
use Rattle.drm_job.specs.Fault.{IsJob}
use Rattle.drm_gpu_tests.specs.Pairs.{pair_of}
use Rattle.drm_workers_tests.proofs.held_up.shares.Goals as goal

abbrev IsShare : Vec Job Global → Type 0
IsShare share = All (IsJob (pair_of 8)) share.items

pub loop-entity-preserved : goal.loop-entity-preserved
loop-entity-preserved c = (
  subst (All IsShare) (sym c.in-Ok.ensures.items)
      (All-append IsShare c.loop-entity.shares.items (c.in_ok-share.share ∷ []) c.loop-entity.invariant.0
      (All-cons IsShare c.in_ok-share.share [] c.in_ok-share.ensures (All-nil IsShare))),
  search rules,
)
