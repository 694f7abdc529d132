-- Records of a journal, and their turns.
use Rattle.std.proofs.Common.{◌≡◌, ℕ, Bool, true, false, Option, None, List, set, get_or, Some, refl, ap, ◌∙◌, slice_get}
use Rattle.std.specs.Option.{option_map_or}
use Rattle.std.proofs.lemmas.List.{map-set}
use Rattle.std.proofs.lemmas.Option.{slice_get_within}
use Rattle.drm_lists.proofs.Places.{at_index}
use Rattle.drm_serial.specs.Serial.{Turn}
use Rattle.drm_state.specs.declared.journal.JobRecord.{JobRecord}
use Rattle.drm_state.specs.Journal.{turns, is_at, changed_at}

-- the turn of a record
abbrev pub turn_of : JobRecord → Turn
turn_of r = record { job = r.job; ran = r.ran }

-- a change of a record that is there
pub changed_is : (journal : List JobRecord) (f : ℕ) (r : JobRecord) (change : JobRecord → JobRecord) → slice_get journal f ≡ Some r
    → changed_at journal f change ≡ set journal f (change r)
changed_is journal f r change is = ap (λ o. option_map_or (λ r. set journal f (change r)) o journal) is

-- a test that a record passes
pub at_test : (journal : List JobRecord) (f : ℕ) (r : JobRecord) (test : JobRecord → Bool) → slice_get journal f ≡ Some r
    → is_at journal f test ≡ test r
at_test journal f r test is = ap (λ o. option_map_or test o false) is

-- the turns after a change of one record
pub turns_changed : (journal : List JobRecord) (f : ℕ) (r : JobRecord) (change : JobRecord → JobRecord) → slice_get journal f ≡ Some r
    → turns (changed_at journal f change) ≡ set (turns journal) f (turn_of (change r))
turns_changed journal f r change is = ap turns (changed_is journal f r change is) ∙ map-set turn_of journal f (change r)

-- a test that is passed at a number finds a record there
pub passes_at : (js : List JobRecord) (f : ℕ) (test : JobRecord → Bool) → is_at js f test ≡ true → (r : JobRecord) × (slice_get js f ≡ Some r) × (test r ≡ true)
passes_at js f test is = by_record (slice_get js f) refl is
  where
    by_record : (o : Option JobRecord) → slice_get js f ≡ o → option_map_or test o false ≡ true → (r : JobRecord) × (slice_get js f ≡ Some r) × (test r ≡ true)
    by_record None at none = absurd (let never : false ≡ true = none in cc (never))
    by_record (Some r) at some = (r, at, some)

-- and an index finds that record
pub found_by_test : (js : List JobRecord) (f : ℕ) (test : JobRecord → Bool) (x : JobRecord) → is_at js f test ≡ true → x ≡ get_or js f x → slice_get js f ≡ Some x
found_by_test js f test x is x_is = let there = passes_at js f test is in at_index js f x x_is (slice_get_within js f there.0 there.1)
