use Rattle.std.proofs.Common.{◌≡◌, map, take}
use Rattle.std.specs.List.{enumerate_from}
use Rattle.drm_picture.proofs.columns.by_command.Given as goal

abbrev pub invariant-loop-place : goal.invariant-loop-place
invariant-loop-place l = l.lefts.items ≡ map (λ p. p.0) (enumerate_from 0 (take l.place l.commands))
