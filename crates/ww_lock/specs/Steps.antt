-- What a seat learns of each step: a relation of the step, the seat before, the number found and the seat after.
use Rattle.std.specs.Prelude.{◌≡◌, ◌≢◌, ℕ, ◌+◌, ◌<◌, List, [], ◌∷◌, ◌++◌, true, false, ◌==◌, if◌then◌else◌, IsPermutation}
use mathlib.Core.Option.{Option, some}
use Rattle.std.specs.Prelude as plain
use Rattle.std.specs.Prelude.{Bool, ◌&&◌, ◌||◌, ◌^◌, not, Some}
use Rattle.ww_lock.specs.Facts.{Facts}
use Rattle.ww_lock.specs.Fences.{NotBack}
use Rattle.ww_lock.specs.declared.board.TaskChange.{TaskChange}
use Rattle.ww_lock.specs.declared.board.TaskChange.TheVariants.{Same, Begins, Ends}
use Rattle.atomic_table.specs.Table.{Me, Step, rest}
use Rattle.ww_lock.specs.declared.board.View.{View}
use Rattle.ww_lock.specs.declared.board.Slot.{Slot}
use Rattle.ww_lock.specs.declared.board.Slot.TheVariants.{Pivot, Value, Announced}
use Rattle.ww_lock.specs.Parts.{IsWhole, halved}
use Rattle.ww_lock.specs.Rule.{In, KnowsBelow, idle, saw}

-- a seat is its view and the slots that it has out
abbrev pub Sat : Type 0 → Type 0 → Type 0 → Type 0
Sat P X T = Me (Slot P X T) (View P X T)

-- drops each pair of the number b
abbrev pub without : {A : Type 0} → ℕ → List (ℕ × A) → List (ℕ × A)
without b [] = []
without b (x ∷ xs) = if x.0 == b then without b xs else x ∷ without b xs

-- each call was left before the later ones were found
abbrev pub IsChain : {P : Type 0} → (P → P → Type 0) → List (P × P) → Type 0
IsChain grows [] = Unit {0}
IsChain grows (c ∷ cs) = ((d : _) → In d cs → grows c.1 d.0) × IsChain grows cs

abbrev pub number_of : {A B : Type 0} → A × B → A
number_of x = x.0

-- adds the call from p to q to those of a seat, where the seat gains one
abbrev pub calls_with : {P : Type 0} → Bool → List (P × P) → P → P → List (P × P)
calls_with gains cs p q = if gains then cs ++ (p, q) ∷ [] else cs

-- gives the task that a seat has after the change
abbrev pub task_after : {T : Type 0} → TaskChange T → plain.Option T → plain.Option T
task_after Same t = t
task_after (Begins t) u = Some t
task_after Ends u = plain.None

-- where p becomes q, the pivot goes on to wait for each task but the one that the change ends. It waits for the task
-- that the change begins, for which it did not wait before
abbrev pub Turns : {P T : Type 0} → (P → T → Type 0) → P → P → plain.Option T → TaskChange T → Type 0
Turns {P} {T} busy p q task Same = (t : T) → busy p t → busy q t
Turns {P} {T} busy p q task (Begins t) =
    (task ≡ plain.None) × (busy p t → ⊥) × busy q t × ((s : T) → busy p s → busy q s)
Turns {P} {T} busy p q task Ends = (t : T) × (task ≡ Some t) × ((s : T) → (s ≡ t → ⊥) → busy p s → busy q s)

-- the pivot p is good and came of each that the seat has seen, shows each fence word no earlier than the seat saw it,
-- and waits for the seat's task. A seat that has taken in all others has seen it
pub record IsLater {P X T : Type 0} (facts : Facts P X T) (v : View P X T) (p : P) : Type 0 where
  pub fine : facts.good p
  pub grown : (q : P) → In q v.pivot.seen → facts.grows q p
  pub shows : (f x : ℕ) → In (f, x) v.looked → NotBack x (facts.posted p f)
  pub waits : (t : T) → v.task ≡ Some t → facts.busy p t
  pub alone : IsWhole v.part → In p v.pivot.seen

module _ {P X T : Type 0} where
  -- a seat that is split keeps all but half of its part
  abbrev pub left_half : View P X T → View P X T
  left_half v = record v { part = halved v.part }

  -- the second seat has seen and looked at the same, has done nothing, and has the other half of the part
  abbrev pub right_half : View P X T → View P X T
  right_half v =
      record { lock = idle; pivot = saw v.pivot.seen; looked = v.looked; task = plain.None; part = halved v.part }

  -- the first of two seats takes in what the second one saw, did and looked at, and its part
  abbrev pub joined : View P X T → View P X T → View P X T
  joined v w = record {
    lock = record v.lock {
      had = v.lock.had ++ w.lock.had;
      met = v.lock.met ++ w.lock.met;
      drew = v.lock.drew ++ w.lock.drew;
      ended = v.lock.ended || w.lock.ended;
    };
    pivot = record v.pivot { seen = v.pivot.seen ++ w.pivot.seen; mine = v.pivot.mine ++ w.pivot.mine };
    looked = v.looked ++ w.looked;
    task = v.task;
    part = v.part ++ w.part;
  }

  -- the seat has drawn the ticket t
  abbrev pub with_ticket : ℕ → View P X T → View P X T
  with_ticket t v = record v { lock = record v.lock { ticket = t; drew = v.lock.drew ++ t ∷ [] } }

  -- the seat has seen a pivot
  abbrev pub HasSeen : View P X T → Type 0
  HasSeen v = (q : P) × (qs : List P) × (v.pivot.seen ≡ q ∷ qs)

  -- the seat has found that no ticket is left
  abbrev pub with_end : View P X T → View P X T
  with_end v = record v { lock = record v.lock { ended = true } }

  -- the ticket n is a next one: above each ticket that the seat knows of
  abbrev pub IsNext : View P X T → ℕ → Type 0
  IsNext v n = (0 < n) × (v.lock.ticket < n) × KnowsBelow v.lock n × (v.lock.ended ≡ false)

  -- the seat has claimed value b, by its ticket, and owes it as x
  abbrev pub with_claim : ℕ → X → View P X T → View P X T
  with_claim b x v = record v {
    lock = record v.lock { owes = v.lock.owes ++ (b, x) ∷ []; had = v.lock.had ++ (b, v.lock.ticket) ∷ [] };
  }

  -- the seat has met the holder h of value b
  abbrev pub with_met : ℕ → ℕ → View P X T → View P X T
  with_met b h v = record v { lock = record v.lock { met = v.lock.met ++ (b, h) ∷ [] } }

  -- the seat has met each of these holders
  abbrev pub with_mets : List (ℕ × ℕ) → View P X T → View P X T
  with_mets ms v = record v { lock = record v.lock { met = v.lock.met ++ ms } }

  -- the seat has given value b back
  abbrev pub with_release : ℕ → View P X T → View P X T
  with_release b v = record v { lock = record v.lock { owes = without b v.lock.owes } }

  -- the seat has entered and found p
  abbrev pub with_entry : P → View P X T → View P X T
  with_entry p v = record v { pivot = record v.pivot { seen = p ∷ []; inside = true; posted = false } }

  -- the seat found p and left q, and owes xs. A call that was posted is among its calls already
  abbrev pub with_exit : Bool → TaskChange T → P → P → List (ℕ × X) → View P X T → View P X T
  with_exit is_call change p q xs v = record {
    lock = record v.lock { owes = xs };
    pivot = record {
      seen = q ∷ [];
      mine = calls_with (is_call && not v.pivot.posted) v.pivot.mine p q;
      inside = false;
      posted = false;
    };
    looked = v.looked;
    task = task_after change v.task;
    part = v.part;
  }

  -- the seat found p and shows q, and owes xs
  abbrev pub with_post : P → P → List (ℕ × X) → View P X T → View P X T
  with_post p q xs v = record v {
    lock = record v.lock { owes = xs };
    pivot = record { seen = q ∷ []; mine = v.pivot.mine ++ (p, q) ∷ []; inside = true; posted = true };
  }

  -- the seat has looked at fence f and found the word x
  abbrev pub with_look : ℕ → ℕ → View P X T → View P X T
  with_look f x v = record v { looked = v.looked ++ (f, x) ∷ [] }

  -- where the counter was found as the step expects it, it is the seat's ticket from now on
  abbrev pub drawn : Step (Slot P X T) → Sat P X T → ℕ → Sat P X T → Type 0
  drawn st m n m' = (n ≡ st.first → (m' ≡ (with_ticket n m.0, m.1)) × IsNext m.0 n) × (n ≢ st.first → m' ≡ m)

  -- the counter was read: it is at its end, or tells nothing
  abbrev pub exhausted : Step (Slot P X T) → Sat P X T → ℕ → Sat P X T → Type 0
  exhausted st m n m' = (n ≡ 2 ^ 63 → m' ≡ (with_end m.0, m.1)) × (n ≢ 2 ^ 63 → m' ≡ m)

  -- where the word of value b was 0 the seat has the value. Where it was not, the seat has met another holder
  abbrev pub claimed : Step (Slot P X T) → Sat P X T → ℕ → Sat P X T → Type 0
  claimed st m n m' = (b : ℕ) → st.word ≡ b + 2
      → (n ≡ 0 → (x : X) × (m' ≡ (with_claim b x m.0, (b + 1, Value x) ∷ m.1)))
      × (n ≢ 0 → (n ≢ m.0.lock.ticket) × (m' ≡ (with_met b n m.0, m.1)))

  -- the seat gave value b back, and its slot
  abbrev pub released : Step (Slot P X T) → Sat P X T → ℕ → Sat P X T → Type 0
  released st m n m' = (b : ℕ) → st.word ≡ b + 2 → m' ≡ (with_release b m.0, rest m.1)

  -- where the pivot was at home the seat has it. It is later than all that the seat knows, and each value that the seat
  -- owes fits it
  abbrev pub entered : Facts P X T → Step (Slot P X T) → Sat P X T → ℕ → Sat P X T → Type 0
  entered facts st m n m' =
      (n ≡ 0 → (p : P) × (m' ≡ (with_entry p m.0, (0, Pivot p) ∷ m.1)) × IsLater facts m.0 p
      × ((b : ℕ) (x : X) → In (b, x) m.0.lock.owes → facts.fits b p x))
      × (n ≢ 0 → m' ≡ m)

  -- the seat leaves the pivot that the step announces, owes the values that it announces, and gives the slot back
  abbrev pub left_as : List P → Option (Slot P X T) → Sat P X T → Sat P X T
  left_as (p ∷ ps) (some (Announced a)) m =
      (with_exit a.is_call a.change.value p a.pivot.value a.held.value.items m.0, rest m.1)
  left_as ps x m = m

  -- the seat shows the pivot that the step announces, and owes the values that it announces
  abbrev pub posted_as : List P → Option (Slot P X T) → Sat P X T → Sat P X T
  posted_as (p ∷ ps) (some (Announced a)) m = (with_post p a.pivot.value a.held.value.items m.0, m.1)
  posted_as ps x m = m

  -- who is inside read the word of a fence: the pivot that it saw shows this word
  abbrev pub read_back : (P → ℕ → ℕ) → Step (Slot P X T) → Sat P X T → ℕ → Sat P X T → Type 0
  read_back posted st m n m' = (m' ≡ m) × ((f : ℕ) (p : P) → st.word ≡ st.slots + 1 + f → m.0.pivot.inside ≡ true
      → m.0.pivot.seen ≡ p ∷ [] → n ≡ posted p f)

  -- the seat showed what the step announces
  abbrev pub posts_word : Step (Slot P X T) → Sat P X T → ℕ → Sat P X T → Type 0
  posts_word st m n m' = m' ≡ posted_as m.0.pivot.seen st.said m

  -- a fence word was looked at. It is what a later pivot shows
  abbrev pub looks_at : Facts P X T → Step (Slot P X T) → Sat P X T → ℕ → Sat P X T → Type 0
  looks_at facts st m n m' = (f : ℕ) → st.word ≡ st.slots + 1 + f
      → (m' ≡ (with_look f n m.0, m.1)) × ((p : P) × IsLater facts m.0 p × (n ≡ facts.posted p f))

  -- the seat left what the step announces
  abbrev pub left : Step (Slot P X T) → Sat P X T → ℕ → Sat P X T → Type 0
  left st m n m' = m' ≡ left_as m.0.pivot.seen st.said m

  -- a joined seat has put its calls in order, each as often as it was there, and has seen the last of what it saw
  abbrev pub settled : (P → P → Type 0) → Step (Slot P X T) → Sat P X T → ℕ → Sat P X T → Type 0
  settled grows st m n m' = (p : P) × (cs : List (P × P))
      × (m' ≡ (record m.0 { pivot = record m.0.pivot { seen = p ∷ []; mine = cs } }, m.1))
      × IsChain grows cs × IsPermutation m.0.pivot.mine cs × In p m.0.pivot.seen
      × ((q : P) → In q m.0.pivot.seen → grows q p) × ((c : P × P) → In c cs → grows c.1 p)
