use Rattle.std.proofs.Common.{◌≡◌, [], ◌∷◌, replicate}
use Rattle.drm_types.specs.declared.spec.Priority.TheVariants.{Normal}
use Rattle.drm_tests.proofs.entities_of.Given as goal

-- so far, that many
abbrev pub invariant-loop : goal.invariant-loop
invariant-loop l = l.entities ≡ replicate l.counter (record { rings = 0 ∷ []; priority = Normal })
