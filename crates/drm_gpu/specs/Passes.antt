-- A device that is shared, its passes, and what a call with one says.
use Rattle.std.specs.Prelude.{◌≡◌, ◌||◌, ℕ, Bool, true, false, List, [], ◌∷◌, ◌++◌, None, IsPermutation}
use Rattle.atomic_table.specs.Seated.{TableId}
use Rattle.ww_lock.specs.declared.board.View.{View}
use Rattle.ww_lock.specs.declared.seat.Seat.{Seat}
use Rattle.ww_lock.specs.Seats.{IsAsOwed, IsSameHolder, Sits, sees}
use Rattle.ww_lock.specs.Fences.{NotBack}
use Rattle.ww_lock.specs.Parts.{IsWhole}
use Rattle.ww_lock.specs.Rule.{In}
use Rattle.ww_lock.specs.Steps.{IsChain}
use Rattle.drm_types.specs.declared.spec.DeviceSpec.{DeviceSpec}
use Rattle.drm_resv.specs.Reservation.{Reservation, WithRoom}
use Rattle.drm_state.specs.Keeps.{word_at}
use Rattle.drm_state.specs.Grows.{Grows}
use Rattle.drm_state.specs.Lawful.{IsLawfulDevice}
use Rattle.drm_state.specs.Reservation.{Fits}
use Rattle.drm_sched.specs.Marks.{MarkedDevice, Task, unmarked}
use Rattle.drm_state.specs.State.{opened_device}

-- a device that is lawful
abbrev pub IsGood : MarkedDevice → Type 0
IsGood d = IsLawfulDevice d.state

-- the second device may come of the first
abbrev pub GrowsTo : MarkedDevice → MarkedDevice → Type 0
GrowsTo d e = Grows d.state e.state

-- what the device shows for a fence
abbrev pub word_shown : MarkedDevice → ℕ → ℕ
word_shown d fence = word_at d.state.journal fence

-- a shared device: where it is, and the description that it was built from
pub record GpuState : Type 0 where
  pub home : TableId
  pub spec : DeviceSpec

-- a pass: its device, the state of that device which it saw last, its calls as (found, left), the fence words that it
-- looked at, the claims that it made, the holders that its tries met, the tickets that it drew, whether it was told
-- that none is left, and its part of the device: pieces, each told by how often it was halved. The parts of all
-- passes make up the whole
pub record PassState : Type 0 where
  pub gpu : GpuState
  pub last : MarkedDevice
  pub calls : List (MarkedDevice × MarkedDevice)
  pub looked : List (ℕ × ℕ)
  pub had : List (ℕ × ℕ)
  pub met : List (ℕ × ℕ)
  pub drew : List ℕ
  pub tickets_out : Bool
  pub part : List ℕ

-- what a seat of the device knows
abbrev pub Seeing : Type 0
Seeing = View MarkedDevice WithRoom Task

abbrev pub DeviceSeat : Type 0
DeviceSeat = Seat MarkedDevice WithRoom Task

-- the device that was seen last
abbrev pub first_or : MarkedDevice → List MarkedDevice → MarkedDevice
first_or d [] = d
first_or d (p ∷ ps) = p

abbrev pub blank : MarkedDevice
blank = unmarked (opened_device (record { buffers = []; rings = []; entities = []; max_jobs = 0 }))

abbrev pub last_of : Seeing → MarkedDevice
last_of v = first_or blank v.pivot.seen

-- the device that a seat of this table is at
abbrev pub gpu_of : TableId → Seeing → GpuState
gpu_of home v = record { home = home; spec = (last_of v).state.spec }

abbrev pub pass_of : TableId → Seeing → PassState
pass_of home v = record {
  gpu = gpu_of home v;
  last = last_of v;
  calls = v.pivot.mine;
  looked = v.looked;
  had = v.lock.had;
  met = v.lock.met;
  drew = v.lock.drew;
  tickets_out = v.lock.ended;
  part = v.part;
}

-- a pass that has done nothing, to a device that was just built
abbrev pub first_pass : GpuState → PassState
first_pass gpu = record { gpu = gpu; last = unmarked (opened_device gpu.spec); calls = []; looked = []; had = []; met = []; drew = []; tickets_out = false; part = 0 ∷ [] }

-- one device of this description was seen last. The calls are a chain, and what each left grows to what was seen
pub record Knows (spec : DeviceSpec) (last : MarkedDevice) (v : Seeing) : Type 0 where
  pub seen : v.pivot.seen ≡ last ∷ []
  pub described : last.state.spec ≡ spec
  pub chain : IsChain GrowsTo v.pivot.mine
  pub lefts : (c : MarkedDevice × MarkedDevice) → In c v.pivot.mine → GrowsTo c.1 last

-- a reservation, with its room, fits the device as that of buffer b
abbrev pub FitsDevice : ℕ → MarkedDevice → WithRoom → Type 0
FitsDevice b d r = Fits b d.state.journal r.kept

-- each of these reservations fits the device
abbrev pub Fitting : MarkedDevice → List (ℕ × Reservation) → Type 0
Fitting d held = (b : ℕ) (x : Reservation) → In (b, x) held → Fits b d.state.journal x

-- a seat of the device that is outside, and owes what it holds as it is but for its room
pub record Seated (gpu : GpuState) (s : DeviceSeat) : Type 0 where
  pub sits : Sits false gpu.home s
  pub knows : Knows gpu.spec (last_of (sees s)) (sees s)
  pub owed : IsAsOwed FitsDevice s

-- the seat of a pass: it holds nothing and waits for no packet
pub record IsPassSeat (gpu : GpuState) (s : DeviceSeat) : Type 0 where
  pub seated : Seated gpu s
  pub none : s.held.items ≡ []
  pub idle : (sees s).task ≡ None

-- a seat that has entered and found this device
pub record Entered (gpu : GpuState) (found : MarkedDevice) (s : DeviceSeat) : Type 0 where
  pub sits : Sits true gpu.home s
  pub knows : Knows gpu.spec found (sees s)
  pub fresh : (sees s).pivot.posted ≡ false

-- the seat holds what it did, by the same ticket, and waits for the same packet
abbrev pub HoldsOn : DeviceSeat → DeviceSeat → Type 0
HoldsOn s t = IsSameHolder s t × ((sees t).task ≡ (sees s).task)

-- what a seat has noted beside the devices that it saw
pub record Noted : Type 0 where
  pub looked : List (ℕ × ℕ)
  pub had : List (ℕ × ℕ)
  pub met : List (ℕ × ℕ)
  pub drew : List ℕ
  pub tickets_out : Bool
  pub part : List ℕ

abbrev pub noted : Seeing → Noted
noted v = record { looked = v.looked; had = v.lock.had; met = v.lock.met; drew = v.lock.drew; tickets_out = v.lock.ended; part = v.part }

-- only what was seen last has changed
abbrev pub IsSameBut : Seeing → Seeing → Type 0
IsSameBut v w = (w.pivot.mine ≡ v.pivot.mine) × (noted w ≡ noted v)

-- and one call was added
abbrev pub Adds : MarkedDevice → MarkedDevice → Seeing → Seeing → Type 0
Adds found left v w = (w.pivot.mine ≡ v.pivot.mine ++ (found, left) ∷ []) × (noted w ≡ noted v)

-- a device that a caller finds: it is lawful, came of the one that was seen last, and shows no fence earlier than it
-- was looked at. A caller that has taken in all others finds the very device that it saw last
pub record IsFound (found : MarkedDevice) (v : Seeing) : Type 0 where
  pub lawful : IsGood found
  pub later : GrowsTo (last_of v) found
  pub shows : (fence word : ℕ) → In (fence, word) v.looked → NotBack word (word_shown found fence)
  pub alone : IsWhole v.part → found ≡ last_of v

-- a caller that has only waited: what it saw last came of what it saw before, and is that where it has taken in all
-- others
abbrev pub HasWaited : Seeing → Seeing → Type 0
HasWaited v w = GrowsTo (last_of v) (last_of w) × (IsWhole v.part → last_of w ≡ last_of v)

-- a call found a lawful device that came of what the pass saw last and shows no fence earlier than the pass saw it, and
-- left the device that the pass sees now. A pass that has taken in all others found what it saw last, but for a packet
-- of its own that was out. The calls of the pass have this one more
pub record Calls (does : MarkedDevice → MarkedDevice → Type 0) (old new : PassState) : Type 0 where
  pub found : MarkedDevice
  pub lawful : IsGood found
  pub later : GrowsTo old.last found
  pub shows : (fence word : ℕ) → In (fence, word) old.looked → NotBack word (word_shown found fence)
  pub alone : IsWhole old.part → found.state ≡ old.last.state
  pub event : does found new.last
  pub onward : GrowsTo found new.last
  pub gpu : new.gpu ≡ old.gpu
  pub pass : new ≡ record old { last = new.last; calls = old.calls ++ (found, new.last) ∷ [] }

-- the same of a seat that saw v and sees w
pub record CallsAs (does : MarkedDevice → MarkedDevice → Type 0) (v w : Seeing) : Type 0 where
  pub found : MarkedDevice
  pub lawful : IsGood found
  pub later : GrowsTo (last_of v) found
  pub shows : (fence word : ℕ) → In (fence, word) v.looked → NotBack word (word_shown found fence)
  pub alone : IsWhole v.part → found.state ≡ (last_of v).state
  pub event : does found (last_of w)
  pub onward : GrowsTo found (last_of w)
  pub adds : Adds found (last_of w) v w

-- a pass of two: it saw the later of what they saw, its calls are those of both, each as often, in one order, and it
-- has all that they looked at, claimed, met and drew
pub record IsJoinedOf (one other new : PassState) : Type 0 where
  pub gpu : new.gpu ≡ one.gpu
  pub later : GrowsTo one.last new.last × GrowsTo other.last new.last
  pub calls : IsPermutation (one.calls ++ other.calls) new.calls
  pub chain : IsChain GrowsTo new.calls
  pub lefts : (c : MarkedDevice × MarkedDevice) → In c new.calls → GrowsTo c.1 new.last
  pub looked : new.looked ≡ one.looked ++ other.looked
  pub had : new.had ≡ one.had ++ other.had
  pub met : new.met ≡ one.met ++ other.met
  pub drew : new.drew ≡ one.drew ++ other.drew
  pub tickets_out : new.tickets_out ≡ (one.tickets_out || other.tickets_out)
  pub part : new.part ≡ one.part ++ other.part
