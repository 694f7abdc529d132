-- What stands in lists and at their places.
use Rattle.std.proofs.Common.{◌≡◌, ◌≢◌, ℕ, ◌<◌, zero, suc, List, [], ◌∷◌, ◌++◌, length, set, sym, refl, ap, ◌∙◌, subst, ⊎_elim, inl, inr, ◌⊎◌, arith, Bool, map, drop, get_or, eq-eqb, ne_eqb}
use Rattle.std.specs.Prelude.{IsPermutation}
use Rattle.std.proofs.lemmas.List.Sorted.{Contains-permutation}
use mathlib.Core.Logic.{dite}
use native.Mathlib.Decide.{ℕ_discrete}
use Rattle.atomic_table.proofs.Lists.{at_set}
use mathlib.Core.Option.{some, some-injective, some-ne-none}
use lib.ListN.{get_elem?}
use Rattle.ww_lock.specs.Rule.{In}
use Rattle.ww_lock.specs.Steps.{without, number_of}
use Rattle.std.specs.Prelude.{if◌then◌else◌}

module _ {A : Type 0} where
  pub set_at : (l : List A) (i : ℕ) (a b : A) → get_elem? l i ≡ some a → get_elem? (set l i b) i ≡ some b
  set_at [] i a b e = absurd (some-ne-none a (sym e))
  set_at (x ∷ xs) zero a b e = refl
  set_at (x ∷ xs) (suc i) a b e = set_at xs i a b e

  pub at_in : (l : List A) (i : ℕ) (a : A) → get_elem? l i ≡ some a → In a l
  at_in [] i a e = absurd (some-ne-none a (sym e))
  at_in (x ∷ xs) zero a e = inl (sym (some-injective x a e))
  at_in (x ∷ xs) (suc i) a e = inr (at_in xs i a e)

  pub in_left : (a : A) (xs ys : List A) → In a xs → In a (xs ++ ys)
  in_left a [] ys e = absurd e
  in_left a (x ∷ xs) ys e = ⊎_elim (λ t. inl t) (λ t. inr (in_left a xs ys t)) e

  pub in_right : (a : A) (xs ys : List A) → In a ys → In a (xs ++ ys)
  in_right a [] ys e = e
  in_right a (x ∷ xs) ys e = inr (in_right a xs ys e)

  pub in_both : (a : A) (xs ys : List A) → In a (xs ++ ys) → In a xs ⊎ In a ys
  in_both a [] ys e = inr e
  in_both a (x ∷ xs) ys e = ⊎_elim (λ t. inl (inl t)) (λ t. ⊎_elim (λ u. inl (inr u)) (λ u. inr u) (in_both a xs ys t)) e

  pub in_last : (a b : A) (xs : List A) → In a (xs ++ b ∷ []) → In a xs ⊎ (a ≡ b)
  in_last a b xs e = ⊎_elim (λ t. inl t) (λ t. inr (⊎_elim (λ u. u) (λ u. absurd u) t)) (in_both a xs (b ∷ []) e)

  pub now_last : (a : A) (xs : List A) → In a (xs ++ a ∷ [])
  now_last a xs = in_right a xs (a ∷ []) (inl refl)

-- a list in another order has the same elements
module _ {A : Type 0} where
  place_in : (a : A) (xs : List A) → In a xs → (k : ℕ) × (k < length xs) × (get_or xs k a ≡ a)
  place_in a [] h = absurd h
  place_in a (x ∷ xs) h = ⊎_elim (λ e. (0, omega arith, sym e)) (λ t. let r = place_in a xs t in (suc r.0, let l = r.1 in omega arith, r.2)) h

  in_place : (a : A) (xs : List A) (k : ℕ) → k < length xs → get_or xs k a ≡ a → In a xs
  in_place a [] k l e = absurd (omega arith)
  in_place a (x ∷ xs) zero l e = inl (sym e)
  in_place a (x ∷ xs) (suc k) l e = inr (in_place a xs k (omega arith) e)

  pub in_permutation : (a : A) (xs ys : List A) → IsPermutation xs ys → In a xs → In a ys
  in_permutation a xs ys p h = let c = Contains-permutation xs ys a p (place_in a xs h) in in_place a ys c.0 c.1 c.2

-- a fact holds of each seat after a step of the seat id
pub seats : {V : Type 0} (K : ℕ → V → Type 0) (vs : List V) (id : ℕ) (w : V) → K id w → ((j : ℕ) (d : V) → j ≢ id → get_elem? vs j ≡ some d → K j d)
    → (j : ℕ) (d : V) → get_elem? (set vs id w) j ≡ some d → K j d
seats {V} K vs id w mine others j d e = ⊎_elim (λ (t : (j ≡ id) × (w ≡ d)). subst (λ (x : ℕ × V). K x.0 x.1) (λ i. (sym t.0 i, t.1 i)) mine)
    (λ (t : (j ≢ id) × (get_elem? vs j ≡ some d)). others j d t.0 t.1) (at_set vs id j w d e)

pub same_view : {V : Type 0} (vs : List V) (j k : ℕ) (v w : V) → get_elem? vs j ≡ some v → get_elem? vs k ≡ some w → k ≡ j → w ≡ v
same_view vs j k v w a b e = some-injective w v (sym b ∙ (ap (get_elem? vs) e ∙ a))

-- a pair of another number stays, and none of this number is left
module _ {A : Type 0} where
  pub in_without : (b : ℕ) (p : ℕ × A) (xs : List (ℕ × A)) → In p (without b xs) → In p xs × (p.0 ≢ b)
  in_without b p [] h = absurd h
  in_without b p (x ∷ xs) h = dite (ℕ_discrete x.0 b)
      (λ e. let t = in_without b p xs (subst (λ (k : Bool). In p (if k then without b xs else x ∷ without b xs)) (eq-eqb x.0 b e) h) in (inr t.0, t.1))
      (λ ne. ⊎_elim (λ t. (inl t, λ e. ne (ap (λ (z : ℕ × A). z.0) (sym t) ∙ e))) (λ t. let u = in_without b p xs t in (inr u.0, u.1))
      (subst (λ (k : Bool). In p (if k then without b xs else x ∷ without b xs)) (ne_eqb x.0 b ne) h))

  pub without_in : (b : ℕ) (p : ℕ × A) (xs : List (ℕ × A)) → In p xs → p.0 ≢ b → In p (without b xs)
  without_in b p [] h ne = absurd h
  without_in b p (x ∷ xs) h ne = dite (ℕ_discrete x.0 b)
      (λ e. subst (λ (k : Bool). In p (if k then without b xs else x ∷ without b xs)) (sym (eq-eqb x.0 b e))
      (⊎_elim (λ t. absurd (ne (ap (λ (z : ℕ × A). z.0) t ∙ e))) (λ t. without_in b p xs t ne) h))
      (λ no. subst (λ (k : Bool). In p (if k then without b xs else x ∷ without b xs)) (sym (ne_eqb x.0 b no)) (⊎_elim (λ t. inl t) (λ t. inr (without_in b p xs t ne)) h))

-- a number has a pair in each list with the same numbers
pub key_in : {A B : Type 0} (xs : List (ℕ × A)) (ys : List (ℕ × B)) → map number_of xs ≡ map number_of ys → (b : ℕ) (x : A) → In (b, x) xs → (y : B) × In (b, y) ys
key_in [] ys e b x h = absurd h
key_in (p ∷ xs) [] e b x h = absurd (let n : suc (length (map number_of xs)) ≡ 0 = ap length e in omega arith)
key_in (p ∷ xs) (q ∷ ys) e b x h = ⊎_elim (λ t. (q.1, inl (λ i. ((ap number_of t ∙ ap (λ l. get_or l 0 0) e) i, q.1)))) (λ t. let k = key_in xs ys (ap (drop 1) e) b x t in (k.0, inr k.1)) h
