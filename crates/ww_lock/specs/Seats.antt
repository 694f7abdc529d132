-- A seat: what it knows, what it holds, and whether it is inside.
use Rattle.std.specs.Prelude.{◌≡◌, ◌<◌, ◌+◌, ℕ, Bool, List, [], ◌∷◌, ◌++◌, true, false, None, IsPermutation}
use Rattle.ww_lock.specs.declared.board.Slot.{Slot}
use Rattle.ww_lock.specs.declared.board.Slot.TheVariants.{Gone}
use Rattle.atomic_table.specs.Seated.{TableId}
use Rattle.ww_lock.specs.declared.seat.Seat.{Seat}
use Rattle.ww_lock.specs.declared.board.View.{View}
use Rattle.ww_lock.specs.Held.{IsSameKeys, IsApart, emptied}
use Rattle.ww_lock.specs.Rule.{In}
use Rattle.ww_lock.specs.Steps.{IsChain, HasSeen, joined, with_end}
use Rattle.ww_lock.specs.declared.begin.BeginError.{BeginError}
use Rattle.ww_lock.specs.declared.begin.BeginError.TheVariants.{Memory, TicketsOut}

-- gives what a seat knows
abbrev pub sees : {P X T : Type 0} → Seat P X T → View P X T
sees s = s.place.me.0

-- gives the number of a seat, which no other seat of the table has
abbrev pub seat_id : {P X T : Type 0} → Seat P X T → ℕ
seat_id s = s.place.id

-- the seat is one of the table z
abbrev pub IsSeat : {P X T : Type 0} → TableId → Seat P X T → Type 0
IsSeat z s = s.place.table_id ≡ z

-- the slots of one who is inside begin with the pivot's
abbrev pub behind_pivot : {P X T : Type 0} → Bool → List (ℕ × Slot P X T) → List (ℕ × Slot P X T)
behind_pivot true slots = (0, Gone) ∷ slots
behind_pivot false slots = slots

-- the seat is one of the table z, inside or not. It has seen a pivot and holds what its view says: each value once,
-- with its slot
pub record Sits {P X T : Type 0} (is_inside : Bool) (z : TableId) (s : Seat P X T) : Type 0 where
  pub seated : s.place.table_id ≡ z
  pub keys : IsSameKeys (sees s).lock.owes s.held.items
  pub apart : IsApart s.held.items
  pub within : (b : ℕ) (x : X) → In (b, x) s.held.items → b + 1 < z.slots
  pub hands : s.place.me.1 ≡ behind_pivot is_inside (emptied s.held.items)
  pub inside : (sees s).pivot.inside ≡ is_inside
  pub saw : HasSeen (sees s)

-- each value that is held fits each pivot that the owed one fits
abbrev pub IsAsOwed : {P X T : Type 0} → (ℕ → P → X → Type 0) → Seat P X T → Type 0
IsAsOwed {P} {X} {T} fits s = (b : ℕ) (x y : X) → In (b, x) (sees s).lock.owes → In (b, y) s.held.items
    → (p : P) → fits b p x → fits b p y

-- the seat is one of the table z, is outside and holds nothing
pub record IsOutside {P X T : Type 0} (z : TableId) (s : Seat P X T) : Type 0 where
  pub sits : Sits false z s
  pub none : s.held.items ≡ []

-- an idle seat is outside, holds nothing and waits for no task
abbrev pub IsIdle : {P X T : Type 0} → TableId → Seat P X T → Type 0
IsIdle z s = IsOutside z s × ((sees s).task ≡ None)

-- it is the same seat, which holds the same values by the same ticket. It may have seen another pivot since
abbrev pub IsSameHolder : {P X T : Type 0} → Seat P X T → Seat P X T → Type 0
IsSameHolder s t = (t.place.id ≡ s.place.id) × (t.held ≡ s.held) × ((sees t).lock.ticket ≡ (sees s).lock.ticket)

-- it is the same seat, with the same slots out. It may know more since
abbrev pub IsSamePass : {P X T : Type 0} → Seat P X T → Seat P X T → Type 0
IsSamePass s t = (t.place.table_id ≡ s.place.table_id) × (t.place.id ≡ s.place.id) × (t.place.me.1 ≡ s.place.me.1)

-- it is the same seat, which has done nothing. Its list may have other room
abbrev pub IsSameSeat : {P X T : Type 0} → Seat P X T → Seat P X T → Type 0
IsSameSeat s t = (t.place ≡ s.place) × (t.held.items ≡ s.held.items)

-- the seat s comes back as it was, or knows that no ticket is left
abbrev pub GivesBack : {P X T : Type 0} → Seat P X T → BeginError P X T → Type 0
GivesBack s (Memory t) = IsSameSeat s t
GivesBack s (TicketsOut t) = (t.place.table_id ≡ s.place.table_id) × (t.place.id ≡ s.place.id)
    × (t.place.me ≡ (with_end s.place.me.0, s.place.me.1)) × (t.held.items ≡ s.held.items)

-- gives the seat that came back
abbrev pub seat_back : {P X T : Type 0} → BeginError P X T → Seat P X T
seat_back (Memory t) = t
seat_back (TicketsOut t) = t

-- the seat made of two has all calls of both in one chain, each as often as it was made. The pivot that it has seen
-- came of each that one of the two saw or left
abbrev pub IsJoined : {P X T : Type 0} → (P → P → Type 0) → View P X T → View P X T → View P X T → Type 0
IsJoined {P} {X} {T} grows v u w = (p : P) × (cs : List (P × P))
    × (w ≡ record (joined v u) { pivot = record v.pivot { seen = p ∷ []; mine = cs } })
    × IsChain grows cs × IsPermutation (v.pivot.mine ++ u.pivot.mine) cs × ((c : P × P) → In c cs → grows c.1 p)
    × ((q : P) → In q v.pivot.seen → grows q p) × ((q : P) → In q u.pivot.seen → grows q p)
