use Rattle.std.proofs.Common.{◌≡◌, ◌<◌, ℕ, true, slice_index_or}
use Rattle.drm_workers.specs.declared.work.Done.{Done}
use Rattle.drm_workers.proofs.gather.first_that_gave_up.Given as goal

-- those so far are done
abbrev pub invariant-loop-place : goal.invariant-loop-place
invariant-loop-place l = (k : ℕ) (d : Done) → k < l.place → (slice_index_or l.fn.dones k d).is_done ≡ true
