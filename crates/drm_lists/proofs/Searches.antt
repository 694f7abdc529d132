-- What a search of a list finds.
use Rattle.std.proofs.Common.{◌≡◌, ℕ, zero, suc, ◌<◌, Bool, true, false, ◌||◌, cond, List, [], ◌∷◌, Some, refl, sym, ap, ◌∙◌, inl, inr, arith, slice_get}
use Rattle.std.specs.Prelude.{find}
use Rattle.std.specs.List.{list_any, list_all}
use Rattle.std.proofs.lemmas.Bool.{cases_Bool, and_parts}

-- one failing element more in front
find_before : {X : Type 0} (p : X → Bool) (z : X) (zs : List X) → p z ≡ false → (b : ℕ)
    → ((a : ℕ) (y : X) → a < b → slice_get zs a ≡ Some y → p y ≡ false)
    → (a : ℕ) (y : X) → a < suc b → slice_get (z ∷ zs) a ≡ Some y → p y ≡ false
find_before p z zs fails b rest zero y lt at = let same : z ≡ y = cc (at) in ap p (sym same) ∙ fails
find_before p z zs fails b rest (suc a) y lt at = rest a y (omega (arith, lt)) at

-- the first element that passes: where it stands, and that those before it fail
pub find_first : {X : Type 0} (p : X → Bool) (xs : List X) (x : X) → find p xs ≡ Some x
    → (b : ℕ) × (slice_get xs b ≡ Some x) × (p x ≡ true) × ((a : ℕ) (y : X) → a < b → slice_get xs a ≡ Some y → p y ≡ false)
find_first p [] x e = absurd (cc (e))
find_first {X} p (z ∷ zs) x e =
    elim (p z) as (λ t. p z ≡ t → cond t (Some z) (find p zs) ≡ Some x
    → (b : ℕ) × (slice_get (z ∷ zs) b ≡ Some x) × (p x ≡ true) × ((a : ℕ) (y : X) → a < b → slice_get (z ∷ zs) a ≡ Some y → p y ≡ false)) [
      | true ↦ λ t is. let same : z ≡ x = cc (is) in (0, is, ap p (sym same) ∙ t, λ a y lt at. absurd (omega (arith, lt)))
      | false ↦ λ t is. let r = find_first p zs x is in (suc r.0, r.1, r.2, find_before p z zs t r.0 r.3)
    ] refl e

-- a test that some element passes
pub any_at : {X : Type 0} (p : X → Bool) (xs : List X) → list_any p xs ≡ true → (k : ℕ) × (x : X) × (slice_get xs k ≡ Some x) × (p x ≡ true)
any_at p [] is = absurd (let never : false ≡ true = is in cc (never))
any_at p (x ∷ xs) is =
    elim (cases_Bool (p x)) [
      | inl here ↦ (0, x, refl, here)
      | inr no_more ↦ let there = any_at p xs (sym (ap (λ b. b || list_any p xs) no_more) ∙ is) in (suc there.0, there.1, there.2, there.3)
    ]

-- a test that all elements pass
pub all_at : {X : Type 0} (q : X → Bool) (xs : List X) (k : ℕ) (x : X) → list_all q xs ≡ true → slice_get xs k ≡ Some x → q x ≡ true
all_at q [] k x all at = absurd (cc (at))
all_at q (y ∷ ys) zero x all at = let same : y ≡ x = cc (at) in ap q (sym same) ∙ (and_parts (q y) (list_all q ys) all).0
all_at q (y ∷ ys) (suc k) x all at = all_at q ys k x (and_parts (q y) (list_all q ys) all).1 at
