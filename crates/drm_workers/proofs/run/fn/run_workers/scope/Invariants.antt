use Rattle.std.proofs.Common.{◌≡◌, ◌≤◌, ◌+◌, false, [], ◌++◌, All, vec_len, vec_capacity}
use Rattle.std.specs.Vec.Iter.{into_iter_items, into_iter_len}
use Rattle.drm_workers.specs.Works.{MayWork}
use Rattle.drm_workers.specs.Charges.{AreCharges}
use Rattle.drm_workers.proofs.run.fn.run_workers.scope.Given as goal

-- what fits the workers that are left, fits all of them behind the handles that there are
abbrev pub invariant-loop-worker : goal.invariant-loop-worker
invariant-loop-worker g l =
    let rest = into_iter_items l.worker-iterator in
    ((hs : _) → AreCharges (λ h. h.promise) l.gpu.now rest hs → AreCharges (λ h. h.promise) l.gpu.now (into_iter_items l.initial.worker-iterator) (l.handles.items ++ hs))
    × All (MayWork l.gpu.now) rest
    × (vec_len l.handles + into_iter_len l.worker-iterator ≤ vec_capacity l.handles)
    × (vec_len l.handles + into_iter_len l.worker-iterator ≤ vec_capacity l.dones)
    × (l.dones.items ≡ []) × (l.is_short ≡ false)
