-- What a device leaves when it is taken apart.
use Rattle.std.specs.Prelude.{◌≡◌, ◌<◌, ℕ, List, Option, true, All, Some, false, length, slice_get}
use Rattle.drm_job.specs.Fault.{IsJob}
use Rattle.drm_resv.specs.Reservation.{WithRoom}
use Rattle.drm_sched.specs.Marks.{MarkedDevice, ring_out}
use Rattle.ww_lock.specs.Lifetime.{FitsAll, TakesApart}
use Rattle.ww_lock.specs.Parts.{IsWhole}
use Rattle.drm_gpu.specs.declared.gpu.Closed.{Closed}
use Rattle.drm_gpu.specs.declared.gpu.CloseError.{CloseError}
use Rattle.drm_gpu.specs.declared.gpu.CloseError.TheVariants.{Memory, Inside}
use Rattle.drm_gpu.specs.Laws.{device_facts}
use Rattle.drm_gpu.specs.Passes.{FitsDevice, GpuState, PassState, IsGood, GrowsTo, Seeing, pass_of}

-- the device is at home, and those reservations that are given, in a board of the description under its rule, in
-- which a seat knows what the pass knows
abbrev pub WasAtHome : PassState → MarkedDevice → List (Option WithRoom) → Type 0
WasAtHome pass device resvs =
    (id : ℕ) × (v : Seeing) × (pass_of pass.gpu.home v ≡ pass) × TakesApart device_facts pass.gpu.spec.max_jobs id v resvs (Some device)

-- what is left is that of a lawful device with no packet out, which came of the one that the pass saw last, and was
-- at home: of the very device that it saw last, with every reservation, where the pass has taken in all others
pub record Leaves (pass : PassState) (c : Closed) : Type 0 where
  pub device : MarkedDevice
  pub lawful : IsGood device
  pub home : WasAtHome pass device c.resvs.items
  pub idle : (ring : ℕ) → ring_out device ring ≡ false
  pub later : GrowsTo pass.last device
  pub spec : (c.spec ≡ device.state.spec) × (c.spec ≡ pass.gpu.spec)
  pub records : c.records ≡ device.state.journal
  pub jobs : All (λ r. IsJob c.spec r.job) c.records
  pub bytes : c.buffers.bytes ≡ device.state.memory
  pub inside : (b : ℕ) → b < length pass.gpu.spec.buffers → slice_get c.buffers.out b ≡ Some false
  pub fit : FitsAll (λ b (x : WithRoom). FitsDevice b device x) 0 c.resvs.items
  pub count : length c.resvs.items ≡ length device.state.spec.buffers
  pub last : IsWhole pass.part → device ≡ pass.last
  pub all : IsWhole pass.part → (b : ℕ) → b < length c.resvs.items → (x : WithRoom) × (slice_get c.resvs.items b ≡ Some (Some x))

-- both come back where memory was refused. A pass that has taken in all others is told that somebody is inside only
-- where a packet is out
abbrev pub GivesBack : GpuState → PassState → CloseError → Type 0
GivesBack gpu pass (Memory g p) = (g ≡ gpu) × (p ≡ pass)
GivesBack gpu pass Inside = IsWhole pass.part → (ring : ℕ) × (ring_out pass.last ring ≡ true)
