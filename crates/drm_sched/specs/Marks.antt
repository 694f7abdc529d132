-- Packets that are out: a ring runs its next packet beside the device, on the bytes of the packet's own buffers.
use Rattle.std.specs.Prelude.{◌≡◌, ℕ, ◌==◌, Bool, false, not, ◌||◌, IsFalse, List, [], length, map, Option, Some, None, is_none, option_map, slice_get, slice_set, Contains}
use Rattle.std.specs.Option.{option_map_or}
use Rattle.std.specs.List.{list_any}
use Rattle.drm_buffer.specs.Memory.{bytes_of}
use Rattle.drm_packet.specs.declared.Packet.{Packet}
use Rattle.drm_packet.specs.Touches.{touches}
use Rattle.drm_packet.specs.Parts.{target_of, other_bytes}
use Rattle.drm_state.specs.declared.journal.JobRecord.{JobRecord}
use Rattle.drm_state.specs.State.{DeviceState}
use Rattle.drm_state.specs.Ring.{current_of}
use Rattle.drm_state.specs.Outcomes.{must_stall, next_packet, ran_device}
use Rattle.drm_state.specs.Steady.{IsSteady}

-- what a ring has out: the job and the number of its packet, and the bytes of the packet's buffers as they went out
pub record Mark : Type 0 where
  pub fence : ℕ
  pub packet : ℕ
  pub write : Option (List ℕ)
  pub read : Option (List ℕ)

-- a device with the marks of its rings. Its memory shows a buffer that is out as it went out
pub record MarkedDevice : Type 0 where
  pub state : DeviceState
  pub marks : List (Option Mark)

-- a device of which nothing is out
abbrev pub unmarked : DeviceState → MarkedDevice
unmarked state = record { state = state; marks = map (λ ring. None) state.rings }

-- the mark of a ring
abbrev pub mark_of : MarkedDevice → ℕ → Option Mark
mark_of d ring = option_map_or (λ m. m) (slice_get d.marks ring) None

-- the packet of this number of a job
abbrev pub packet_at : List JobRecord → ℕ → ℕ → Option Packet
packet_at journal fence number = option_map_or (λ r. slice_get r.job.packets number) (slice_get journal fence) None

-- the buffers that a mark keeps out
abbrev pub out_by : List JobRecord → Option Mark → List ℕ
out_by journal None = []
out_by journal (Some m) = option_map_or touches (packet_at journal m.fence m.packet) []

-- whether the buffer is out
abbrev pub is_out : MarkedDevice → ℕ → Bool
is_out d buffer = list_any (λ m. list_any (λ b. b == buffer) (out_by d.state.journal m)) d.marks

-- the ring has a packet out: it steps, finishes and times out nothing
abbrev pub ring_out : MarkedDevice → ℕ → Bool
ring_out d ring = not (is_none (mark_of d ring))

-- a buffer of the ring's next packet is out
abbrev pub buffer_out : MarkedDevice → ℕ → Bool
buffer_out d ring =
    option_map_or
    (λ f. option_map_or (λ p. list_any (is_out d) (touches p)) (next_packet d.state.journal f) false)
    (current_of d.state ring)
    false

-- a packet that is out blocks a step of the ring, and the beginning of one
abbrev pub is_step_blocked : MarkedDevice → ℕ → Bool
is_step_blocked d ring = ring_out d ring || buffer_out d ring

-- the mark of a packet that goes out now
abbrev pub mark_for : DeviceState → ℕ → JobRecord → Packet → Mark
mark_for device number r packet = record {
  fence = number;
  packet = r.ran;
  write = option_map (bytes_of device.memory) (target_of packet);
  read = other_bytes packet device.memory;
}

-- the device with a packet out on the ring, and with none
abbrev pub begun_device : MarkedDevice → ℕ → Mark → MarkedDevice
begun_device d ring m = record d { marks = slice_set d.marks ring (Some m) }

abbrev pub reported_device : MarkedDevice → ℕ → Mark → Packet → MarkedDevice
reported_device d ring m packet = record { state = ran_device d.state m.fence packet; marks = slice_set d.marks ring None }

-- the packet of a mark is the one that the ring runs next, and its buffers are as they went out
pub record IsOut (device : DeviceState) (ring : ℕ) (m : Mark) : Type 0 where
  pub current : current_of device ring ≡ Some m.fence
  pub job : JobRecord
  pub at : slice_get device.journal m.fence ≡ Some job
  pub count : job.ran ≡ m.packet
  pub packet : Packet
  pub next : slice_get job.job.packets m.packet ≡ Some packet
  pub runs : IsFalse (must_stall packet job.karma.resets)
  pub write : m.write ≡ option_map (bytes_of device.memory) (target_of packet)
  pub read : m.read ≡ other_bytes packet device.memory

-- a steady device with packets out: of each two, no buffer is of both
pub record IsSteadyMarked (d : MarkedDevice) : Type 0 where
  pub state : IsSteady d.state
  pub count : length d.marks ≡ length d.state.spec.rings
  pub out : (ring : ℕ) (m : Mark) → mark_of d ring ≡ Some m → IsOut d.state ring m
  pub apart : (i j : ℕ) (m n : Mark) → (i ≡ j → ⊥) → mark_of d i ≡ Some m → mark_of d j ≡ Some n
      → (b : ℕ) → Contains (out_by d.state.journal (Some m)) b → Contains (out_by d.state.journal (Some n)) b → ⊥

-- what a thread has to do that holds the buffers of a packet, and that the device waits for it
pub record Task : Type 0 where
  pub ring : ℕ
  pub mark : Mark

abbrev pub IsBusy : MarkedDevice → Task → Type 0
IsBusy d task = mark_of d task.ring ≡ Some task.mark
