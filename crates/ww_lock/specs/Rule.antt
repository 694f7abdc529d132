-- What holds of a board between any two steps.
use Rattle.std.specs.Prelude.{◌≡◌, ◌≢◌, ◌⊎◌, ℕ, ◌+◌, ◌<◌, ◌≤◌, ◌^◌, List, [], ◌∷◌, map, length, slice_index, true, false}
use mathlib.Core.Option.{Option, some, none}
use lib.ListN.{get_elem?}
use Rattle.atomic_table.specs.Table.{State}
use Rattle.ww_lock.specs.declared.board.View.{View}
use Rattle.ww_lock.specs.declared.board.LockView.{LockView}
use Rattle.ww_lock.specs.declared.board.PivotView.{PivotView}
use Rattle.std.specs.Prelude.{Some}
use Rattle.std.specs.Prelude as plain
use Rattle.ww_lock.specs.Facts.{Facts}
use Rattle.ww_lock.specs.Fences.{NotBack}
use Rattle.ww_lock.specs.Parts.{weight, AreWithin}
use Rattle.ww_lock.specs.declared.board.Slot.{Slot}
use Rattle.ww_lock.specs.declared.board.Slot.TheVariants.{Pivot, Value}

-- a stands in the list
abbrev pub In : {A : Type 0} → A → List A → Type 0
In a [] = ⊥
In a (x ∷ xs) = (a ≡ x) ⊎ In a xs

-- an idle seat has drawn no ticket, holds nothing, and has claimed and met nothing
abbrev pub idle : {X : Type 0} → LockView X
idle = record { ticket = 0; owes = []; had = []; met = []; drew = []; ended = false }

-- the seat saw these pivots, has made no calls, and is outside
abbrev pub saw : {P : Type 0} → List P → PivotView P
saw ps = record { seen = ps; mine = []; inside = false; posted = false }

-- the first seat of a board saw the first pivot, has done nothing, and has the whole board
abbrev pub newcomer : {P X T : Type 0} → P → View P X T
newcomer p = record { lock = idle; pivot = saw (p ∷ []); looked = []; task = plain.None; part = 0 ∷ [] }

-- the seat knows nothing but the fence words that it looked at
abbrev pub looked_only : {P X T : Type 0} → List (ℕ × ℕ) → View P X T
looked_only ls = record { lock = idle; pivot = saw []; looked = ls; task = plain.None; part = [] }

-- a seat that another one took in knows nothing any more
abbrev pub spent : {P X T : Type 0} → View P X T
spent = looked_only []

abbrev pub lock_of : {P X T : Type 0} → View P X T → LockView X
lock_of v = v.lock

abbrev pub pivot_of : {P X T : Type 0} → View P X T → PivotView P
pivot_of v = v.pivot

abbrev pub looked_of : {P X T : Type 0} → View P X T → List (ℕ × ℕ)
looked_of v = v.looked

abbrev pub task_of : {P X T : Type 0} → View P X T → plain.Option T
task_of v = v.task

abbrev pub part_of : {P X T : Type 0} → View P X T → List ℕ
part_of v = v.part

-- the seat j has the view v
abbrev pub At : {V : Type 0} → List V → ℕ → V → Type 0
At views j v = get_elem? views j ≡ some v

module _ {X : Type 0} where
  -- some seat holds value b, by the ticket t
  abbrev pub Held : List (LockView X) → ℕ → ℕ → Type 0
  Held views b t = (k : ℕ) × (w : LockView X) × (x : X) × At views k w × (w.ticket ≡ t) × In (b, x) w.owes

  -- some seat claimed value b by the ticket h
  abbrev pub Met : List (LockView X) → ℕ → ℕ → Type 0
  Met views b h = (k : ℕ) × (w : LockView X) × At views k w × In (b, h) w.had

  -- some seat drew the ticket t
  abbrev pub Drew : List (LockView X) → ℕ → Type 0
  Drew views t = (k : ℕ) × (w : LockView X) × At views k w × In t w.drew

  -- each ticket that the seat drew, claimed a value by or met is below n
  abbrev pub KnowsBelow : LockView X → ℕ → Type 0
  KnowsBelow v n = ((t : ℕ) → In t v.drew → t < n)
      × ((b t : ℕ) → In (b, t) v.had → t < n) × ((b h : ℕ) → In (b, h) v.met → h < n)

-- the seat owes value b as x: it claimed b by its last ticket, which the word of b tells, and x fits
abbrev pub Owed : {X : Type 0} → (ℕ → X → Type 0) → List ℕ → ℕ → LockView X → ℕ → X → Type 0
Owed fit words n v b x =
    (b < n) × (slice_index words (b + 2) ≡ v.ticket) × (0 < v.ticket) × fit b x × In (b, v.ticket) v.had

module _ {P X T : Type 0} (fit : ℕ → X → Type 0) (n : ℕ) where
  -- each of the n values fits, and is at home or with one seat, which has drawn a ticket of its own. The tickets that
  -- were drawn are those from 1 up to the counter, and a seat that found no ticket left is right
  pub record Locks (words : List ℕ) (homes : List (Option (Slot P X T))) (views : List (LockView X)) : Type 0 where
    pub counter : (0 < slice_index words 0) × (slice_index words 0 ≤ 2 ^ 63)
    pub tickets : (j : ℕ) (v : LockView X) → At views j v → v.ticket < slice_index words 0
    pub apart : (j k : ℕ) (v w : LockView X) → At views j v → At views k w → 0 < v.ticket → v.ticket ≡ w.ticket → j ≡ k
    pub drawn : (t : ℕ) → 0 < t → t < slice_index words 0 → Drew views t
    pub known : (j : ℕ) (v : LockView X) → At views j v → KnowsBelow v (slice_index words 0)
    pub ended : (j : ℕ) (v : LockView X) → At views j v → v.ended ≡ true → slice_index words 0 ≡ 2 ^ 63
    pub home : (b : ℕ) → b < n → slice_index words (b + 2) ≡ 0
        → (x : X) × (get_elem? homes (b + 1) ≡ some (some (Value x))) × fit b x
    pub out : (b : ℕ) → b < n → slice_index words (b + 2) ≢ 0
        → (get_elem? homes (b + 1) ≡ some none) × Held views b (slice_index words (b + 2))
    pub owed : (j : ℕ) (v : LockView X) (b : ℕ) (x : X) → At views j v → In (b, x) v.owes → Owed fit words n v b x
    pub met : (j : ℕ) (v : LockView X) (b h : ℕ) → At views j v → In (b, h) v.met → Met views b h

-- of two calls, one was left before the other was found
abbrev pub Comes : {P : Type 0} → (P → P → Type 0) → P × P → P × P → Type 0
Comes grows c d = grows c.1 d.0 ⊎ grows d.1 c.0

-- of each two of the calls, one was left before the other was found
abbrev pub Ordered : {P : Type 0} → (P → P → Type 0) → List (P × P) → Type 0
Ordered grows [] = Unit {0}
Ordered grows (c ∷ cs) = ((d : _) → In d cs → Comes grows c d) × Ordered grows cs

-- what the seat knows is right where the pivot is p and the word of the pivot is x
pub record Sees {P : Type 0} (grows : P → P → Type 0) (p : P) (x : ℕ) (v : PivotView P) : Type 0 where
  pub inside : v.inside ≡ true → (x ≡ 1) × (v.seen ≡ p ∷ [])
  pub grown : (q : P) → In q v.seen → grows q p
  pub order : (q r : P) → In q v.seen → In r v.seen → grows q r ⊎ grows r q
  pub lefts : (c : P × P) → In c v.mine → (q : P) × In q v.seen × grows c.1 q
  pub stays : (c : P × P) → In c v.mine → grows c.1 p
  pub calls : (c : P × P) → In c v.mine → grows c.0 c.1
  pub ordered : Ordered grows v.mine

-- each pivot that one seat saw came of each that the other saw, or the other way round. Of each two calls of theirs one
-- was left before the other was found, and one of the seats at most is inside
pub record Beside {P : Type 0} (grows : P → P → Type 0) (v w : PivotView P) : Type 0 where
  pub seens : (p q : P) → In p v.seen → In q w.seen → grows p q ⊎ grows q p
  pub both : (c d : P × P) → In c v.mine → In d w.mine → Comes grows c d
  pub alone : v.inside ≡ true → w.inside ≡ false

-- the fence words are those of the pivot, and none has gone back since it was looked at
pub record Looks (word : ℕ → ℕ) (n posts : ℕ) (words : List ℕ) (views : List (List (ℕ × ℕ))) : Type 0 where
  pub at : (f : ℕ) → f < posts → slice_index words (n + 2 + f) ≡ word f
  pub past : (j : ℕ) (v : List (ℕ × ℕ)) (f x : ℕ) → At views j v → In (f, x) v → NotBack x (word f)

-- the pivot is busy with each task, and no task is two seats'
pub record Tasks {T : Type 0} (busy : T → Type 0) (views : List (plain.Option T)) : Type 0 where
  pub each : (j : ℕ) (t : T) → At views j (Some t) → busy t
  pub once : (j k : ℕ) (t : T) → At views j (Some t) → At views k (Some t) → j ≡ k

-- the parts of all seats make up so many 2^n-ths of the board
abbrev pub total : ℕ → List (List ℕ) → ℕ
total n [] = 0
total n (ds ∷ parts) = weight n ds + total n parts

-- the parts make up the whole, and a seat with no part was taken in by another: it has nothing but what it looked at
pub record Parts {P X T : Type 0} (views : List (View P X T)) : Type 0 where
  pub n : ℕ
  pub within : (j : ℕ) (ds : List ℕ) → At (map part_of views) j ds → AreWithin n ds
  pub whole : total n (map part_of views) ≡ 2 ^ n
  pub blank : (j : ℕ) (v : View P X T) → At views j v → v.part ≡ [] → v ≡ looked_only v.looked

module _ {P X T : Type 0} (facts : Facts P X T) where
  -- the pivot p is good, and is at home or with the one seat that is inside. What each seat knows of it is right
  pub record Pivots (p : P) (x : ℕ) (homes : List (Option (Slot P X T))) (views : List (PivotView P)) : Type 0 where
    pub at_home : x ≡ 0 → get_elem? homes 0 ≡ some (some (Pivot p))
    pub away : x ≢ 0 → (x ≡ 1) × (get_elem? homes 0 ≡ some none)
        × ((k : ℕ) × (w : PivotView P) × At views k w × (w.inside ≡ true))
    pub is_good : facts.good p
    pub each : (j : ℕ) (v : PivotView P) → At views j v → Sees facts.grows p x v
    pub two : (j k : ℕ) (v w : PivotView P) → At views j v → At views k w → j ≢ k → Beside facts.grows v w

  -- the table has the words and slots of n values and of the fences. Its locks, pivot, fence words, tasks and parts are
  -- in order, and some seat has seen the pivot that it shows
  pub record Keeps (posts : ℕ) (s : State (Slot P X T) (View P X T)) : Type 0 where
    pub n : ℕ
    pub shown : P
    pub wide : length s.words ≡ n + 2 + posts
    pub deep : length s.homes ≡ n + 1
    pub locks : Locks (λ b x. facts.fits b shown x) n s.words s.homes (map lock_of s.views)
    pub pivots : Pivots shown (slice_index s.words 1) s.homes (map pivot_of s.views)
    pub looks : Looks (facts.posted shown) n posts s.words (map looked_of s.views)
    pub tasks : Tasks (facts.busy shown) (map task_of s.views)
    pub parts : Parts s.views
    pub latest : (j : ℕ) × (v : View P X T) × At s.views j v × In shown v.pivot.seen
