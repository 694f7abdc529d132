use Rattle.std.proofs.Common.{◌≤◌, ◌+◌, List, ◌++◌, vec_len, vec_capacity}
use Rattle.std.specs.Vec.Iter.{into_iter_items, into_iter_len}
use Rattle.drm_workers.specs.declared.work.Done.{Done}
use Rattle.drm_workers.specs.Charges.{AreKept}
use Rattle.drm_workers.proofs.run.join_all.Given as goal

-- what fits the handles that are left, fits all of them behind what is noted
abbrev pub invariant-loop-handle : goal.invariant-loop-handle
invariant-loop-handle g l =
    ((ds : List Done) → AreKept (λ h. h.promise) (into_iter_items l.handle-iterator) ds → AreKept (λ h. h.promise) l.fn.handles.items (l.dones.items ++ ds))
    × (vec_len l.dones + into_iter_len l.handle-iterator ≤ vec_capacity l.dones)
