use Rattle.std.proofs.Common.{◌≡◌, length}
use Rattle.drm_workers.proofs.Tallies.{Tally}
use Rattle.drm_workers.proofs.counting.count_rings.Given as goal

-- each ring has its records so far
abbrev pub invariant-loop-record : goal.invariant-loop-record
invariant-loop-record l = (length l.counts ≡ 8) × Tally l.fn.records l.record-index l.counts
