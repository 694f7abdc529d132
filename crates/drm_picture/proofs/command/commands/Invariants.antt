use Rattle.std.proofs.Common.{◌≡◌, map, take}
use Rattle.drm_picture.proofs.command.commands.Given as goal

abbrev pub invariant-loop-step : goal.invariant-loop-step
invariant-loop-step l = l.commands.items ≡ map (λ step. step.command) (take l.step-index l.steps)
