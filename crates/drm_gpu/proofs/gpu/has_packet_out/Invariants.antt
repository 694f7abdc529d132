use Rattle.std.proofs.Common.{◌≡◌, ◌<◌, ◌-◌, ℕ, false}
use Rattle.drm_sched.specs.Marks.{ring_out}
use Rattle.drm_gpu.proofs.gpu.has_packet_out.Given as goal

-- no ring so far has one out
abbrev pub invariant-loop-ring : goal.invariant-loop-ring
invariant-loop-ring l = (k : ℕ) → k < l.ring → ring_out l.device k ≡ false

abbrev pub decreases-loop-ring : goal.decreases-loop-ring
decreases-loop-ring l = l.count - l.ring
