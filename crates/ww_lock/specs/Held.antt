-- What a holder has in hand.
use Rattle.atomic_table.specs.Table.{turned}
use Rattle.std.specs.Prelude.{ℕ, zero, suc, ◌==◌, if◌then◌else◌, ◌≡◌, ◌+◌, List, [], ◌∷◌, map}
use mathlib.Core.Option.{some}
use lib.ListN.{get_elem?}
use Rattle.ww_lock.specs.declared.board.Slot.{Slot}
use Rattle.ww_lock.specs.declared.board.Slot.TheVariants.{Gone}
use Rattle.ww_lock.specs.Rule.{In}
use Rattle.ww_lock.specs.Steps.{number_of}

-- both lists have the same numbers in the same order
abbrev pub IsSameKeys : {A B : Type 0} → List (ℕ × A) → List (ℕ × B) → Type 0
IsSameKeys xs ys = map number_of xs ≡ map number_of ys

-- no pair in the list has the number b
abbrev pub Lacks : {A : Type 0} → ℕ → List (ℕ × A) → Type 0
Lacks {A} b xs = (x : A) → In (b, x) xs → ⊥

-- the i-th pair in the list has the number b
abbrev pub HasAt : {A : Type 0} → ℕ → ℕ → List (ℕ × A) → Type 0
HasAt {A} b i xs = (x : A) × (get_elem? xs i ≡ some (b, x))

-- no number stands twice in the list
abbrev pub IsApart : {A : Type 0} → List (ℕ × A) → Type 0
IsApart [] = Unit {0}
IsApart (x ∷ xs) = Lacks x.0 xs × IsApart xs

-- whoever holds these values has the slot of each out, with nothing in it
abbrev pub emptied : {P X T : Type 0} → List (ℕ × X) → List (ℕ × Slot P X T)
emptied [] = []
emptied (x ∷ xs) = (x.0 + 1, Gone) ∷ emptied xs

-- the first n slots go behind the others, one by one
abbrev pub turned_by : {A : Type 0} → ℕ → List (ℕ × A) → List (ℕ × A)
turned_by zero c = c
turned_by (suc n) c = turned (turned_by n c)

-- finds the place of the first pair that has the number b, or the length of the list where none has
abbrev pub index_of : {A : Type 0} → ℕ → List (ℕ × A) → ℕ
index_of b [] = 0
index_of b (x ∷ xs) = if x.0 == b then 0 else suc (index_of b xs)
