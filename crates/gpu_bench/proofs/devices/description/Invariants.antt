use Rattle.std.proofs.Common.{◌≡◌, All, length}
use Rattle.gpu_bench.proofs.devices.description.Given as goal

abbrev pub invariant-loop-ring : goal.invariant-loop-ring
invariant-loop-ring l = (length l.buffers ≡ l.ring) × (length l.specs ≡ l.ring) × (length l.entities ≡ l.ring) × All (λ bytes. length bytes ≡ 4096) l.buffers
