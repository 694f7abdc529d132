-- The two moves of a number.
use Rattle.std.proofs.Common.{◌≡◌, ℕ, zero, suc, Bool, true, false, List, [], ◌∷◌, Some, refl, sym, ap, ◌∙◌, slice_get, Vec}
use Rattle.std.proofs.lemmas.Option.{same_Some}
use Rattle.drm_explorer.specs.Exploring.{AreMoves}
use Rattle.drm_orders_tests.specs.Doubling.{Doubles, doubled, form_of}

module _ {A : Type 0} (n : ℕ) (even odd : Vec ℕ A) (even_is : even.items ≡ form_of (doubled n false)) (odd_is : odd.items ≡ form_of (doubled n true)) where
  abbrev pub pair : List (Bool × Vec ℕ A)
  pair = (false, even) ∷ (true, odd) ∷ []

  all : (move : Bool) (to : ℕ) → Doubles n move to → (i : ℕ) × (k : Vec ℕ A) × (slice_get pair i ≡ Some (move, k)) × (k.items ≡ form_of to)
  all false to step = (0, even, refl, even_is ∙ ap form_of (sym step))
  all true to step = (1, odd, refl, odd_is ∙ ap form_of (sym step))

  each : (i : ℕ) (move : Bool) (k : Vec ℕ A) → slice_get pair i ≡ Some (move, k) → (to : ℕ) × Doubles n move to × (form_of to ≡ k.items)
  each zero move k at =
      let same = same_Some (false, even) (move, k) at in
      (doubled n move, refl, ap (λ m. form_of (doubled n m.0)) (sym same) ∙ sym even_is ∙ ap (λ m. m.1.items) same)
  each (suc zero) move k at =
      let same = same_Some (true, odd) (move, k) at in
      (doubled n move, refl, ap (λ m. form_of (doubled n m.0)) (sym same) ∙ sym odd_is ∙ ap (λ m. m.1.items) same)
  each (suc (suc i)) move k at = absurd (cc (at))

  apart : (move : Bool) (k l : Vec ℕ A) → slice_get pair 0 ≡ Some (move, k) → slice_get pair 1 ≡ Some (move, l) → ⊥
  apart move k l at too =
      let differ : false ≡ true = ap (λ m. m.0) (same_Some (false, even) (move, k) at) ∙ sym (ap (λ m. m.0) (same_Some (true, odd) (move, l) too)) in
      cc (differ)

  once : (i j : ℕ) (move : Bool) (k l : Vec ℕ A) → slice_get pair i ≡ Some (move, k) → slice_get pair j ≡ Some (move, l) → i ≡ j
  once zero zero move k l at too = refl
  once zero (suc zero) move k l at too = absurd (apart move k l at too)
  once (suc zero) zero move k l at too = absurd (apart move l k too at)
  once (suc zero) (suc zero) move k l at too = refl
  once (suc (suc i)) j move k l at too = absurd (cc (at))
  once i (suc (suc j)) move k l at too = absurd (cc (too))

  pub two_moves : AreMoves Doubles form_of n pair
  two_moves = record { all = all; each = each; once = once }
