use Rattle.std.proofs.Common.{◌≡◌, drop}
use Rattle.std.specs.Prelude.{vec_len, vec_capacity}
use Rattle.drm_state.specs.Recovery.{all_skipped}
use Rattle.drm_state.proofs.recovery.condemn.Given as goal

abbrev pub invariant-loop-place : goal.invariant-loop-place
invariant-loop-place l =
    (all_skipped l.entity l.journal.items (drop l.place l.pending.items) ≡ all_skipped l.entity l.fn.journal.items l.pending.items)
    × (vec_len l.journal ≡ vec_len l.fn.journal)
    × (vec_capacity l.journal ≡ vec_capacity l.fn.journal)
