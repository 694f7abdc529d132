use Rattle.std.proofs.Common.{◌≡◌, take}
use Rattle.drm_buffer.specs.Memory.{sizes_of}
use Rattle.drm_serial.specs.Serial.{serial}
use Rattle.drm_serial.proofs.serial.Serial.run.Given as goal

abbrev pub invariant-loop-turn : goal.invariant-loop-turn
invariant-loop-turn l =
    (l.machine ≡ serial l.initial' (take l.turn-index l.turns)) × (sizes_of l.machine ≡ sizes_of l.initial')
