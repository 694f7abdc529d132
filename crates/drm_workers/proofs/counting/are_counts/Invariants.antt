use Rattle.std.proofs.Common.{◌≡◌, ◌<◌, ℕ, slice_index_or}
use Rattle.drm_workers.proofs.counting.are_counts.Given as goal

-- those so far are the same
abbrev pub invariant-loop-ring : goal.invariant-loop-ring
invariant-loop-ring l = (k d : ℕ) → k < l.ring → slice_index_or l.fn.told k d ≡ slice_index_or l.fn.counts k d
