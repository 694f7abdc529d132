-- Lists of what is held.
use Rattle.std.proofs.Common.{◌≡◌, ℕ, zero, suc, List, [], ◌∷◌, length, map, refl, sym, ap, ◌∙◌, subst, ⊎_elim, inl, inr, arith, Some, slice_get}
use Rattle.std.specs.Prelude.{All, Contains}
use Rattle.std.proofs.lemmas.List.Elements.{All-head, All-tail}
use mathlib.Core.Option.{some, some-injective, some-ne-none}
use lib.ListN.{get_elem?}
use Rattle.ww_lock.proofs.Lists.{key_in}
use Rattle.drm_lists.proofs.Places.{contains_at, place_of}
use Rattle.ww_lock.specs.Held.{IsSameKeys, Lacks}
use Rattle.ww_lock.specs.Rule.{In}
use Rattle.ww_lock.specs.Steps.{number_of}

module _ {A : Type 0} where
  -- what is in a list stands at a place, and what stands at a place is in it
  pub at_of : (xs : List A) (x : A) → In x xs → (k : ℕ) × (slice_get xs k ≡ Some x)
  at_of [] x h = absurd h
  at_of (y ∷ xs) x h = ⊎_elim (λ e. (0, ap Some (sym e))) (λ t. let n = at_of xs x t in (suc n.0, n.1)) h

  pub in_of : (xs : List A) (k : ℕ) (x : A) → slice_get xs k ≡ Some x → In x xs
  in_of [] k x e = absurd (cc (e))
  in_of (y ∷ xs) zero x e = let is : y ≡ x = cc (e) in inl (sym is)
  in_of (y ∷ xs) (suc k) x e = inr (in_of xs k x e)

  pub elem_of : (xs : List A) (x : A) → In x xs → (k : ℕ) × (get_elem? xs k ≡ some x)
  elem_of [] x h = absurd h
  elem_of (y ∷ xs) x h = ⊎_elim (λ e. (0, ap some (sym e))) (λ t. let n = elem_of xs x t in (suc n.0, n.1)) h

  pub slice_of : (xs : List A) (k : ℕ) (x : A) → get_elem? xs k ≡ some x → slice_get xs k ≡ Some x
  slice_of [] k x e = absurd (some-ne-none x (sym e))
  slice_of (y ∷ xs) zero x e = ap Some (some-injective y x e)
  slice_of (y ∷ xs) (suc k) x e = slice_of xs k x e

  -- what is in a list is contained in it, by either word
  pub in_contains : (xs : List A) (x : A) → In x xs → Contains xs x
  in_contains xs x h = let p = at_of xs x h in contains_at xs p.0 x p.1

  pub contained_in : (xs : List A) (x : A) → Contains xs x → In x xs
  contained_in xs x c = let p = place_of xs x c in in_of xs p.0 x p.1

pub lacks_same : {A B : Type 0} (b : ℕ) (xs : List (ℕ × A)) (ys : List (ℕ × B)) → IsSameKeys xs ys → Lacks b ys → Lacks b xs
lacks_same b xs ys e lacks x h = let k = key_in xs ys e b x h in lacks k.0 k.1

-- where nothing is held, nothing is owed
pub none_owed : {A B : Type 0} (xs : List (ℕ × A)) (ys : List (ℕ × B)) → IsSameKeys xs ys → ys ≡ [] → xs ≡ []
none_owed [] ys e none = refl
none_owed (x ∷ xs) ys e none = absurd (let n : suc (length (map number_of xs)) ≡ 0 = ap length (e ∙ ap (map number_of) none) in omega arith)

-- a fact of all first halves, at a place
pub first_half : {X : Type 0} (P : ℕ → Type 0) (xs : List (ℕ × X)) (k : ℕ) (d : ℕ × X) → All P (map (λ (d : ℕ × X). d.0) xs) → slice_get xs k ≡ Some d → P d.0
first_half P [] k d all at = absurd (cc (at))
first_half {X} P (x ∷ xs) zero d all at = let is : x ≡ d = cc (at) in subst (λ (z : ℕ × X). P z.0) is (All-head P x.0 (map (λ (d : ℕ × X). d.0) xs) all)
first_half {X} P (x ∷ xs) (suc k) d all at = first_half P xs k d (All-tail P x.0 (map (λ (d : ℕ × X). d.0) xs) all) at
