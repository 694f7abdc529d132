-- What a search finds nowhere, a cause that was not told, and a test of a record.
use Rattle.std.proofs.Common.{◌≡◌, ℕ, suc, List, [], ◌∷◌, Some, None, refl, sym, ap, ◌∙◌, slice_get, Bool, true, false, inl, inr, zero, cond}
use Rattle.std.proofs.lemmas.Bool.{cases_Bool}
use Rattle.std.specs.Prelude.{find}
use Rattle.std.specs.Option.{option_map_or}
use Rattle.drm_types.specs.Firsts.{when}
use Rattle.drm_state.specs.declared.journal.JobRecord.{JobRecord}
use Rattle.drm_state.specs.Journal.{is_at}

-- where none is found, each fails
pub each_fails : {X : Type 0} (p : X → Bool) (xs : List X) (k : ℕ) (x : X) → find p xs ≡ None → slice_get xs k ≡ Some x → p x ≡ false
each_fails p [] k x none at = absurd (cc (at))
each_fails {X} p (y ∷ xs) k x none at =
    elim (cases_Bool (p y)) [
      | inl is ↦ let never : Some y ≡ None = sym (ap (λ b. cond b (Some y) (find p xs)) is) ∙ none in absurd (cc (never))
      | inr fails ↦ by_place k at fails (each_fails p xs) (sym (ap (λ b. cond b (Some y) (find p xs)) fails) ∙ none)
    ]
  where
    by_place : (k : ℕ) → slice_get (y ∷ xs) k ≡ Some x → p y ≡ false → ((k : ℕ) (x : X) → find p xs ≡ None → slice_get xs k ≡ Some x → p x ≡ false) → find p xs ≡ None → p x ≡ false
    by_place zero at fails rest none = let same : y ≡ x = cc (at) in ap p (sym same) ∙ fails
    by_place (suc k) at fails rest none = rest k x none at

-- a cause that was not told does not hold
pub not_when : {F : Type 0} (b : Bool) (f : F) → when b f ≡ None → b ≡ false
not_when true f e = absurd (cc (e))
not_when false f e = refl

-- a test that a record passes
pub at_test : (journal : List JobRecord) (f : ℕ) (r : JobRecord) (test : JobRecord → Bool) → slice_get journal f ≡ Some r
    → is_at journal f test ≡ test r
at_test journal f r test is = ap (λ o. option_map_or test o false) is
