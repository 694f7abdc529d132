use Rattle.std.proofs.Common.{◌≡◌, map, take}
use Rattle.drm_buffer.specs.Memory.{sizes_of}
use Rattle.drm_serial.specs.Serial.{serial}
use Rattle.drm_journal.specs.Leaving.{turn_of}
use Rattle.drm_journal.proofs.running.run_read.Given as goal

abbrev pub invariant-loop-armed : goal.invariant-loop-armed
invariant-loop-armed l = record {
  ran : l.machine ≡ serial l.fn.machine (map turn_of (take l.armed-index l.armed-items));
  sizes : sizes_of l.machine ≡ sizes_of l.fn.machine;
}
