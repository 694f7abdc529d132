use Rattle.std.proofs.Common.{◌≤◌, ◌+◌, vec_len, vec_capacity}
use Rattle.std.specs.Vec.Iter.{into_iter_items, into_iter_len}
use Rattle.drm_workers.proofs.Gathering.{Gathered}
use Rattle.drm_workers.proofs.gather.gather.Given as goal

abbrev pub invariant-loop-done : goal.invariant-loop-done
invariant-loop-done l =
    Gathered l.gpu l.fn.pass.part l.fn.dones.items (into_iter_items l.done-iterator) l.pass l.armed.items × (vec_len l.armed + into_iter_len l.done-iterator ≤ vec_capacity l.armed)
