-- What a device answers and leaves when a packet goes out of it and comes back.
use Rattle.std.specs.Prelude.{◌≡◌, ℕ, IsTrue, Bool, false, if◌then◌else◌, List, Option, Some, None, option_map, slice_get}
use Rattle.drm_packet.specs.declared.Packet.{Packet}
use Rattle.drm_packet.specs.Parts.{part_effect, fits_parts}
use Rattle.drm_state.specs.declared.answer.Answer.TheVariants as answer
use Rattle.drm_state.specs.declared.answer.Refusal.{Refusal}
use Rattle.drm_state.specs.declared.answer.Refusal.TheVariants.{PacketOut}
use Rattle.drm_state.specs.declared.journal.JobRecord.{JobRecord}
use Rattle.drm_sched.specs.declared.outside.Begun.{Begun}
use Rattle.drm_sched.specs.declared.outside.Begun.TheVariants.{Work, Stalled}
use Rattle.drm_sched.specs.Marks.{Mark, MarkedDevice, Task, IsBusy, mark_of, mark_for, packet_at, begun_device, reported_device}
use Rattle.drm_state.specs.Outcomes.{must_stall, step_outcome}
use Rattle.drm_state.specs.Refusals.{step_refusal}
use Rattle.drm_state.specs.Ring.{current_of}

-- the refusal of a call that a packet which is out comes before
abbrev pub out_or : Bool → Option Refusal → Option Refusal
out_or out other = if out then Some PacketOut else other

-- the ring's next packet went out with its buffers, or it waits for more resets of its job
abbrev pub HasBegun : MarkedDevice → ℕ → Begun → MarkedDevice → Type 0
HasBegun d ring (Work fence packet copy write read) new =
    (job : JobRecord) × (slice_get d.state.journal fence ≡ Some job) × (current_of d.state ring ≡ Some fence)
    × (packet ≡ job.ran) × (slice_get job.job.packets job.ran ≡ Some copy) × (must_stall copy job.karma.resets ≡ false)
    × (write ≡ (mark_for d.state fence job copy).write) × (read ≡ (mark_for d.state fence job copy).read)
    × (new ≡ begun_device d ring (mark_for d.state fence job copy))
HasBegun d ring (Stalled fence) new = (step_outcome d.state ring ≡ (answer.Stalled fence, d.state)) × (new ≡ d)

-- a packet that went out finds its ranges in the buffers that it went out with
abbrev pub MayRun : Begun → Type 0
MayRun (Work fence packet copy write read) = (bytes : List ℕ) → write ≡ Some bytes → IsTrue (fits_parts copy bytes read)
MayRun (Stalled fence) = Unit {0}

-- these are the buffers that the ring has out: the one it writes as its packet leaves it, the other as it went
abbrev pub IsReport : MarkedDevice → ℕ → Option (List ℕ) → Option (List ℕ) → Type 0
IsReport d ring write read =
    (m : Mark) × (packet : Packet) × (mark_of d ring ≡ Some m) × (packet_at d.state.journal m.fence m.packet ≡ Some packet)
    × (write ≡ option_map (λ bytes. part_effect packet bytes m.read) m.write) × (read ≡ m.read)

-- what went out may be reported once its packet has run on it
abbrev pub MayComeBack : MarkedDevice → ℕ → Begun → Type 0
MayComeBack d ring (Work fence packet copy write read) = IsReport d ring (option_map (λ bytes. part_effect copy bytes read) write) read
MayComeBack d ring (Stalled fence) = Unit {0}

-- the packet came back: it is the step of the ring
abbrev pub HasReported : MarkedDevice → ℕ → ℕ × ℕ → MarkedDevice → Type 0
HasReported d ring ran new =
    (m : Mark) × (packet : Packet) × (mark_of d ring ≡ Some m) × (packet_at d.state.journal m.fence m.packet ≡ Some packet)
    × (ran ≡ (m.fence, m.packet)) × (new ≡ reported_device d ring m packet)
    × (step_refusal d.state ring ≡ None) × (step_outcome d.state ring ≡ (answer.Ran m.fence m.packet, new.state))

-- the device is still busy with each task of another ring
abbrev pub KeepsTasks : MarkedDevice → ℕ → MarkedDevice → Type 0
KeepsTasks d ring new = (task : Task) → (task.ring ≡ ring → ⊥) → IsBusy d task → IsBusy new task
