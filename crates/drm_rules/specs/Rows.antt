-- Rows by number: what a step changes.
use Rattle.std.specs.Prelude.{◌≡◌, ℕ, Bool, false, ◌+◌, ◌-◌, ◌^◌, ◌==◌, max, min, List, Option, Some, None, slice_index_or, if◌then◌else◌}
use Rattle.std.specs.Option.{option_or}

-- whether a lane is that of this number
abbrev pub is_in : Option ℕ → ℕ → Bool
is_in None k = false
is_in (Some lane) k = lane == k

-- the rows are the same, and those that are not there are nothing
abbrev pub SameRows : {T : Type 0} → T → List T → List T → Type 0
SameRows nothing old new = (k : ℕ) → slice_index_or new k nothing ≡ slice_index_or old k nothing

-- one row is put, and the others are the same
abbrev pub Puts : {T : Type 0} → T → List T → ℕ → T → List T → Type 0
Puts nothing old at row new = (k : ℕ) → slice_index_or new k nothing ≡ (if at == k then row else slice_index_or old k nothing)

-- this item, where the lane is that of a number
abbrev pub item_in : {T : Type 0} → Option ℕ → T → ℕ → Option T
item_in lane item k = if is_in lane k then Some item else None

-- the item of a lane stays, if it has one
abbrev pub NotesFirst : {T : Type 0} → List (Option T) → Option ℕ → T → List (Option T) → Type 0
NotesFirst old lane item new = (k : ℕ) → slice_index_or new k None ≡ option_or (slice_index_or old k None) (item_in lane item k)

-- the item of a lane is this one from now on
abbrev pub NotesLast : {T : Type 0} → List (Option T) → Option ℕ → T → List (Option T) → Type 0
NotesLast old lane item new = (k : ℕ) → slice_index_or new k None ≡ option_or (item_in lane item k) (slice_index_or old k None)

-- a lane has one more, up to the greatest number of 64 bits
abbrev pub CountsOne : List ℕ → Option ℕ → List ℕ → Type 0
CountsOne old lane new =
    (k : ℕ) → slice_index_or new k 0 ≡ (if is_in lane k then min (slice_index_or old k 0 + 1) (2 ^ 64 - 1) else slice_index_or old k 0)

-- a lane has the greater of two numbers
abbrev pub NotesGreatest : List ℕ → Option ℕ → ℕ → List ℕ → Type 0
NotesGreatest old lane value new = (k : ℕ) → slice_index_or new k 0 ≡ max (slice_index_or old k 0) (if is_in lane k then value else 0)
