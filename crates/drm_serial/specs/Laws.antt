-- Laws of the machine that runs jobs one after another.
use Rattle.std.specs.Prelude.{◌≡◌, ℕ, ◌+◌, ◌<◌, List, Some, All, IsTrue, slice_get, slice_set}
use Rattle.drm_buffer.specs.Memory.{sizes_of}
use Rattle.drm_packet.specs.declared.Packet.{Packet}
use Rattle.drm_packet.specs.Effect.{effect}
use Rattle.drm_job.specs.Uses.{StaysWithin}
use Rattle.drm_job.specs.Conflicts.{conflicts}
use Rattle.drm_job.specs.Ranges.{RunsIn}
use Rattle.drm_serial.specs.Serial.{Turn, serial}

-- each job stays within what it declares
abbrev pub AllStayWithin : List Turn → Type 0
AllStayWithin turns = (k : ℕ) (turn : Turn) → slice_get turns k ≡ Some turn → StaysWithin turn.job

-- no later job that conflicts with the job has run a packet
abbrev pub NoneHasRun : List Turn → ℕ → Turn → Type 0
NoneHasRun turns i turn =
    (k : ℕ) (later : Turn) → i < k → slice_get turns k ≡ Some later → IsTrue (conflicts turn.job later.job) → later.ran ≡ 0

-- the next packet of a job, run after all turns, leaves what the turns leave with that packet in its job's turn
abbrev pub NextPacketRunsLast : Type 0
NextPacketRunsLast =
    (turns : List Turn) (i : ℕ) (turn : Turn) (packet : Packet) (initial : List (List ℕ)) → slice_get turns i ≡ Some turn
    → slice_get turn.job.packets turn.ran ≡ Some packet → AllStayWithin turns → NoneHasRun turns i turn
    → effect packet (serial initial turns) ≡ serial initial (slice_set turns i (record { job = turn.job; ran = turn.ran + 1 }))

-- turns whose jobs can run in the first memory leave its sizes
abbrev pub SerialKeepsSizes : Type 0
SerialKeepsSizes =
    (turns : List Turn) (initial : List (List ℕ)) → All (λ turn. RunsIn initial turn.job) turns → sizes_of (serial initial turns) ≡ sizes_of initial
