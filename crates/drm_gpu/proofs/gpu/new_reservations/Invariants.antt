use Rattle.std.proofs.Common.{◌≡◌, [], map, replicate}
use Rattle.drm_gpu.proofs.gpu.new_reservations.Given as goal

-- so far, that many
abbrev pub invariant-loop : goal.invariant-loop
invariant-loop l = map (λ r. r.kept) l.rows.items ≡ replicate l.counter (record { entries = []; history = [] })
