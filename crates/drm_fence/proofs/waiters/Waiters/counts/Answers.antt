use Rattle.std.proofs.Common.{ap, ◌∙◌}
use Rattle.drm_fence.specs.Waiting.{Waiting, unmet_in}
use Rattle.drm_fence.proofs.Counted.{count_at}
use Rattle.drm_fence.proofs.waiters.Waiters.counts.Goals as goal

pub returns-clause-counts : goal.returns-clause-counts
returns-clause-counts c =
    λ entity. count_at _ _ _ entity c.self.invariant.0.counted c.deref.ensures.value ∙ ap (λ (w : Waiting). unmet_in w.pairs entity) c.self.view_is
