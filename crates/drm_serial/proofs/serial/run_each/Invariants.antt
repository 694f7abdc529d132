use Rattle.std.proofs.Common.{◌≡◌, take}
use Rattle.drm_buffer.specs.Memory.{sizes_of}
use Rattle.drm_serial.specs.Serial.{after_packets}
use Rattle.drm_serial.proofs.serial.run_each.Given as goal

abbrev pub invariant-loop-packet : goal.invariant-loop-packet
invariant-loop-packet l =
    (l.memory ≡ after_packets l.initial.memory (take l.packet-index l.packets)) × (sizes_of l.memory ≡ sizes_of l.initial.memory)
