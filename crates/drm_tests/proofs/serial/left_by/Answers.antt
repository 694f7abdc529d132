use Rattle.std.proofs.Common.{[], ◌∷◌}
use Rattle.std.proofs.lemmas.List.Elements.{All-from_recursion}
use Rattle.drm_job.specs.Ranges.{RunsIn}
use Rattle.drm_serial.specs.Serial.{Turn}
use Rattle.drm_tests.proofs.serial.left_by.Goals as goal

pub run-requires : goal.run-requires
run-requires c =
    All-from_recursion (λ (turn : Turn). RunsIn c.args.spec.now.buffers turn.job)
    (record { job = c.args.first.now; ran = 2 } ∷ record { job = c.args.second.now; ran = 1 } ∷ [])
    (c.requires.first, (c.requires.second, tt))
