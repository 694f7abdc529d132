-- The first of several causes, and of a list.
use Rattle.std.specs.Prelude.{ℕ, Bool, true, false, not, List, [], ◌∷◌, Option, Some, None, position, option_map}

-- the fault, where the cause holds
abbrev pub when : {F : Type 0} → Bool → F → Option F
when true fault = Some fault
when false fault = None

-- the first fault of a list of tests
abbrev pub first_of : {F : Type 0} → List (Option F) → Option F
first_of [] = None
first_of (Some fault ∷ rest) = Some fault
first_of (None ∷ rest) = first_of rest

-- the fault of the first element that fails the test
abbrev pub first_failing : {X F : Type 0} → (X → Bool) → List X → (ℕ → F) → Option F
first_failing test xs fault = option_map fault (position (λ x. not (test x)) xs)

-- the first element, if there is one
abbrev pub first : {X : Type 0} → List X → Option X
first [] = None
first (x ∷ xs) = Some x

-- whether the list has no element
abbrev pub is_nil : {X : Type 0} → List X → Bool
is_nil [] = true
is_nil (x ∷ xs) = false
