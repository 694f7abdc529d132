-- A caller that has drawn a ticket.
use Rattle.std.specs.Prelude.{ℕ, ◌≡◌, ◌<◌, ◌≤◌, ◌+◌, List, [], ◌∷◌, ◌++◌, length, vec_capacity, Bool, true, false, None, Result, Ok, Err}
use Rattle.atomic_table.specs.Seated.{TableId}
use Rattle.ww_lock.specs.declared.board.View.{View}
use Rattle.ww_lock.specs.declared.acquire.Acquire.{Acquire}
use Rattle.ww_lock.specs.declared.locks.TryLockError.{TryLockError}
use Rattle.ww_lock.specs.declared.locks.TryLockError.TheVariants.{Sealed, Already, Older, Younger}
use Rattle.ww_lock.specs.declared.locks.LockError.{LockError}
use Rattle.ww_lock.specs.declared.locks.LockError.TheVariants.{Backoff}
use Rattle.ww_lock.specs.declared.locks.LockError.TheVariants as lock
use Rattle.ww_lock.specs.Rule.{In}
use Rattle.ww_lock.specs.Seats.{IsAsOwed, Sits, behind_pivot, seat_id, sees}
use Rattle.ww_lock.specs.Steps.{HasSeen, with_claim, with_met, with_mets}
use Rattle.ww_lock.specs.Held.{IsApart, Lacks, HasAt, emptied}

-- gives what the caller's seat knows
abbrev pub view : {P X T : Type 0} → Acquire P X T → View P X T
view a = sees a.seat

-- gives the number of the caller's seat
abbrev pub caller_id : {P X T : Type 0} → Acquire P X T → ℕ
caller_id a = seat_id a.seat

-- the ticket is the one that the seat drew last, and until the caller is done its list has room for every value of the
-- table z
pub record HasTicket {P X T : Type 0} (z : TableId) (a : Acquire P X T) : Type 0 where
  pub drawn : (view a).lock.ticket ≡ a.ticket
  pub counted : 0 < a.ticket
  pub room : a.sealed ≡ false → z.slots ≤ vec_capacity a.seat.held + 1

-- the caller sits at the table z, inside or not, by its ticket
pub record Holds {P X T : Type 0} (is_inside : Bool) (z : TableId) (a : Acquire P X T) : Type 0 where
  pub sits : Sits is_inside z a.seat
  pub own : HasTicket z a

-- a caller that is done has lent its values: they are taken out of its list, and it still owes each and has its slot
pub record HasLent {P X T : Type 0} (is_inside : Bool) (z : TableId) (a : Acquire P X T) : Type 0 where
  pub seated : a.seat.place.table_id ≡ z
  pub own : HasTicket z a
  pub sealed : a.sealed ≡ true
  pub apart : IsApart (view a).lock.owes
  pub within : (b : ℕ) (x : X) → In (b, x) (view a).lock.owes → b + 1 < z.slots
  pub hands : a.seat.place.me.1 ≡ behind_pivot is_inside (emptied (view a).lock.owes)
  pub inside : (view a).pivot.inside ≡ is_inside
  pub saw : HasSeen (view a)

-- the caller sits at the table z and is outside
abbrev pub HoldsOutside : {P X T : Type 0} → TableId → Acquire P X T → Type 0
HoldsOutside z a = Holds false z a

-- the caller may lock, waits for no task, and may give back what it holds as it is
pub record IsReady {P X T : Type 0} (fits : ℕ → P → X → Type 0) (z : TableId) (a : Acquire P X T) : Type 0 where
  pub holds : HoldsOutside z a
  pub unsealed : a.sealed ≡ false
  pub owed : IsAsOwed fits a.seat
  pub idle : (view a).task ≡ None

-- it is the same caller, with the same ticket, and is done or not as before
abbrev pub IsSameAcquire : {P X T : Type 0} → Acquire P X T → Acquire P X T → Type 0
IsSameAcquire a a' = (a'.ticket ≡ a.ticket) × (a'.sealed ≡ a.sealed) × (a'.seat.place.id ≡ a.seat.place.id)

-- tells what a try to lock value b answers, and how it leaves the caller
abbrev pub AnswersTry : {P X T : Type 0} → ℕ → Acquire P X T → Acquire P X T → Result (Unit {0}) TryLockError → Type 0
AnswersTry b a a' (Err Sealed) = (a.sealed ≡ true) × (a' ≡ a)
AnswersTry {P} {X} b a a' (Err Already) = (a.sealed ≡ false) × ((i : ℕ) × HasAt b i a.seat.held.items) × (a' ≡ a)
AnswersTry {P} {X} b a a' (Ok u) = (a.sealed ≡ false) × Lacks b a.seat.held.items × IsSameAcquire a a'
    × ((x : X) × (view a' ≡ with_claim b x (view a)) × (a'.seat.held.items ≡ a.seat.held.items ++ (b, x) ∷ []))
AnswersTry b a a' (Err (Older h)) = (a.sealed ≡ false) × Lacks b a.seat.held.items × IsSameAcquire a a'
    × (h < a.ticket) × (view a' ≡ with_met b h (view a)) × (a'.seat.held ≡ a.seat.held)
AnswersTry b a a' (Err (Younger h)) = (a.sealed ≡ false) × Lacks b a.seat.held.items × IsSameAcquire a a'
    × (a.ticket < h) × (view a' ≡ with_met b h (view a)) × (a'.seat.held ≡ a.seat.held)

-- the failed tries ms have been noted, and nothing else has changed
abbrev pub Waited : {P X T : Type 0} → List (ℕ × ℕ) → Acquire P X T → Acquire P X T → Type 0
Waited ms a a' = IsSameAcquire a a' × (a'.seat.held ≡ a.seat.held) × (view a' ≡ with_mets ms (view a))

-- each of the tries was for value b and let the caller wait: it holds nothing, or the holder that the try found is
-- younger
abbrev pub MayWait : {P X T : Type 0} → ℕ → Acquire P X T → List (ℕ × ℕ) → Type 0
MayWait b a ms = (c h : ℕ) → In (c, h) ms → (c ≡ b) × (0 < length a.seat.held.items → a.ticket < h)

-- after some tries that failed and let the caller wait, value b was claimed
abbrev pub Claimed : {P X T : Type 0} → ℕ → Acquire P X T → Acquire P X T → Type 0
Claimed {P} {X} b a a' = (a.sealed ≡ false) × Lacks b a.seat.held.items × IsSameAcquire a a'
    × ((x : X) × (ms : List (ℕ × ℕ)) × MayWait b a ms × (view a' ≡ with_claim b x (with_mets ms (view a)))
    × (a'.seat.held.items ≡ a.seat.held.items ++ (b, x) ∷ []))

-- tells what a lock of value b answers, and how it leaves the caller. It backs off for the last try of this very call
abbrev pub AnswersLock : {P X T : Type 0} → ℕ → Acquire P X T → Acquire P X T → Result (Unit {0}) LockError → Type 0
AnswersLock b a a' (Err lock.Sealed) = (a.sealed ≡ true) × (a' ≡ a)
AnswersLock b a a' (Err lock.Already) = (a.sealed ≡ false) × ((i : ℕ) × HasAt b i a.seat.held.items) × (a' ≡ a)
AnswersLock b a a' (Ok u) = Claimed b a a'
AnswersLock b a a' (Err (Backoff h)) = (a.sealed ≡ false) × Lacks b a.seat.held.items × (h < a.ticket)
    × (0 < length a.seat.held.items) × ((ms : List (ℕ × ℕ)) × MayWait b a ms × Waited (ms ++ (b, h) ∷ []) a a')
