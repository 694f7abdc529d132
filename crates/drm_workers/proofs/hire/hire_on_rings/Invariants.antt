use Rattle.std.proofs.Common.{◌≡◌, [], replicate}
use Rattle.drm_workers.specs.Works.{HaveAll, Hires}
use Rattle.drm_workers.proofs.hire.hire_on_rings.Given as goal

abbrev pub invariant-loop-ring : goal.invariant-loop-ring
invariant-loop-ring l = Hires l.gpu (replicate l.ring []) l.fn.workers.items l.workers.items × (l.pass.gpu ≡ l.gpu) × (l.pass.calls ≡ [])
    × (HaveAll l.fn.pass.part l.fn.workers.items → HaveAll l.pass.part l.workers.items)
