use Rattle.std.proofs.Common.{◌≡◌, [], ◌∷◌, None}
use Rattle.drm_bench.proofs.packets.packets_out.Given as goal

abbrev pub invariant-loop : goal.invariant-loop
invariant-loop l = l.device.marks ≡ None ∷ []
