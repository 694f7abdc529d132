-- Packets that run outside the lock of the device.
use Rattle.std.specs.Prelude.{◌≡◌, ◌<◌, ◌+◌, ◌==◌, ℕ, Bool, IsTrue, false, List, [], Option, Some, None, Ok, Err, option_map, length, slice_get}
use Rattle.std.specs.Option.{option_map_or}
use Rattle.drm_packet.specs.Parts.{part_effect, fits_parts}
use Rattle.drm_types.specs.declared.spec.DeviceSpec.{DeviceSpec}
use Rattle.drm_state.specs.declared.errors.StepError.TheVariants.{Idle}
use Rattle.drm_state.specs.declared.answer.Stepped.TheVariants.{Stalled}
use Rattle.drm_sched.specs.declared.outside.Begun.TheVariants.{Work}
use Rattle.drm_sched.specs.Begun.{HasBegun}
use Rattle.drm_sched.specs.Marks.{MarkedDevice, Task, is_step_blocked, is_out, packet_at, ring_out}
use Rattle.drm_state.specs.Refusals.{step_refusal}
use Rattle.ww_lock.specs.Seats.{sees}
use Rattle.ww_lock.specs.Fences.{NotBack}
use Rattle.ww_lock.specs.Parts.{IsWhole}
use Rattle.ww_lock.specs.Rule.{In}
use Rattle.drm_gpu.specs.declared.running.OutPacket.{OutPacket}
use Rattle.drm_gpu.specs.declared.running.RanPacket.{RanPacket}
use Rattle.drm_gpu.specs.declared.running.Sent.{Sent}
use Rattle.drm_gpu.specs.declared.running.Sent.TheVariants as sent
use Rattle.drm_gpu.specs.declared.running.StartError.{StartError}
use Rattle.drm_gpu.specs.declared.running.StartError.TheVariants as start
use Rattle.drm_gpu.specs.declared.waiting.Needs.{Needs}
use Rattle.drm_gpu.specs.declared.waiting.Needs.TheVariants.{Ring, Step, Buffer}
use Rattle.drm_gpu.specs.Answers.{StepIs}
use Rattle.drm_gpu.specs.Passes.{Calls, CallsAs, DeviceSeat, GpuState, GrowsTo, IsFound, IsGood, IsPassSeat, IsSameBut, PassState, Seated, Seeing, last_of, word_shown}

-- the packet of this number is the last one of the job with this fence
abbrev pub is_last_packet : MarkedDevice → ℕ → ℕ → Bool
is_last_packet d fence packet = option_map_or (λ r. length r.job.packets == packet + 1) (slice_get d.state.journal fence) false

-- a pass that has a packet out: of this ring, of this job, the packet of this number, the last one of the job or not
pub record RunningState : Type 0 where
  pub pass : PassState
  pub ring : ℕ
  pub fence : ℕ
  pub packet : ℕ
  pub is_last : Bool

-- the ring's next packet went out of a lawful device, which came of what the pass saw last and had nothing in the
-- packet's way; a pass that has taken in all others found the very device that it saw last. The pass sees that device
-- with the packet out, and has made no call: it takes effect when the packet comes back
pub record Starts (ring : ℕ) (old : PassState) (new : RunningState) : Type 0 where
  pub found : MarkedDevice
  pub lawful : IsGood found
  pub later : GrowsTo old.last found
  pub shows : (fence word : ℕ) → In (fence, word) old.looked → NotBack word (word_shown found fence)
  pub alone : IsWhole old.part → found ≡ old.last
  pub ring_is : new.ring ≡ ring
  pub free : is_step_blocked found ring ≡ false
  pub taken : step_refusal found.state ring ≡ None
  pub out : OutPacket
  pub begun : HasBegun found ring (Work new.fence new.packet out.copy out.write out.read) new.pass.last
  pub last : new.is_last ≡ is_last_packet new.pass.last new.fence new.packet
  pub gpu : new.pass.gpu ≡ old.gpu
  pub pass : new.pass ≡ record old { last = new.pass.last }

-- a step of the ring that runs nothing
abbrev pub RunsNothing : ℕ → PassState → StartError → Type 0
RunsNothing ring old (start.Stalled pass fence) = Calls (StepIs ring (Ok (Stalled fence))) old pass
RunsNothing ring old (start.Idle pass) = Calls (StepIs ring (Err Idle)) old pass

-- a packet that is out blocks the caller
abbrev pub is_blocked : Needs → MarkedDevice → Bool
is_blocked (Ring ring) d = ring_out d ring
is_blocked (Step ring) d = is_step_blocked d ring
is_blocked (Buffer buffer) d = is_out d buffer

abbrev pub IsThere : Needs → DeviceSpec → Type 0
IsThere (Ring ring) spec = ring < length spec.rings
IsThere (Step ring) spec = ring < length spec.rings
IsThere (Buffer buffer) spec = buffer < length spec.buffers

-- what the device waits for while this packet is out
abbrev pub task_of : OutPacket → Task
task_of out = record { ring = out.ring; mark = record { fence = out.fence; packet = out.packet; write = out.write; read = out.read } }

-- the packet is that of its job, and finds its ranges in its buffers
pub record IsPacketOfItsJob (d : MarkedDevice) (out : OutPacket) : Type 0 where
  pub copy : packet_at d.state.journal out.fence out.packet ≡ Some out.copy
  pub runs : (bytes : List ℕ) → out.write ≡ Some bytes → IsTrue (fits_parts out.copy bytes out.read)

-- what a packet leaves of the buffer that it writes
abbrev pub written : OutPacket → Option (List ℕ)
written out = option_map (λ bytes. part_effect out.copy bytes out.read) out.write

-- a seat that has this packet out, and holds nothing
pub record SeatHasOut (gpu : GpuState) (out : OutPacket) (s : DeviceSeat) : Type 0 where
  pub seated : Seated gpu s
  pub none : s.held.items ≡ []
  pub waits : (sees s).task ≡ Some (task_of out)
  pub job : IsPacketOfItsJob (last_of (sees s)) out

-- a seat whose packet was out and has run
pub record SeatHasRun (gpu : GpuState) (ran : RanPacket) (s : DeviceSeat) : Type 0 where
  pub sent : OutPacket
  pub has : SeatHasOut gpu sent s
  pub task : ran.task ≡ task_of sent
  pub bytes : ran.out ≡ record sent { write = written sent }

-- the packet went out of the device that was found
pub record GoesOut (gpu : GpuState) (ring : ℕ) (out : OutPacket) (v : Seeing) (s : DeviceSeat) : Type 0 where
  pub found : MarkedDevice
  pub is_found : IsFound found v
  pub same : IsSameBut v (sees s)
  pub ring_is : out.ring ≡ ring
  pub free : is_step_blocked found ring ≡ false
  pub taken : step_refusal found.state ring ≡ None
  pub begun : HasBegun found ring (Work out.fence out.packet out.copy out.write out.read) (last_of (sees s))
  pub last : out.is_last ≡ is_last_packet (last_of (sees s)) out.fence out.packet
  pub has : SeatHasOut gpu out s

-- what came of a step that a seat began
abbrev pub IsSent : GpuState → ℕ → Sent → Seeing → DeviceSeat → Type 0
IsSent gpu ring (sent.Out out) v s = GoesOut gpu ring out v s
IsSent gpu ring (sent.Stalled fence) v s = IsPassSeat gpu s × CallsAs (StepIs ring (Ok (Stalled fence))) v (sees s)
IsSent gpu ring sent.Idle v s = IsPassSeat gpu s × CallsAs (StepIs ring (Err Idle)) v (sees s)
