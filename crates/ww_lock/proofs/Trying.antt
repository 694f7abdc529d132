-- A value is added to what is held.
use Rattle.std.proofs.Common.{◌≡◌, ◌≢◌, ℕ, ◌+◌, ◌<◌, ◌≤◌, zero, suc, List, [], ◌∷◌, ◌++◌, length, sym, refl, ap, ◌∙◌, subst, ⊎_elim, inl, inr, arith, eq-eqb, ne_eqb, Bool}
use Rattle.std.specs.Prelude.{if◌then◌else◌}
use mathlib.Core.Logic.{dite}
use mathlib.Core.List.{map-append}
use native.Mathlib.Decide.{ℕ_discrete}
use Rattle.ww_lock.specs.declared.board.Slot.{Slot}
use Rattle.ww_lock.specs.declared.board.Slot.TheVariants.{Gone, Value}
use Rattle.ww_lock.specs.Rule.{In}
use Rattle.ww_lock.specs.Steps.{without, number_of}
use Rattle.ww_lock.specs.Held.{IsSameKeys, IsApart, Lacks, emptied}
use Rattle.ww_lock.proofs.Lists.{in_last, in_without, key_in}

module _ {A : Type 0} where
  pub lacks_same : {B : Type 0} (b : ℕ) (xs : List (ℕ × A)) (ys : List (ℕ × B)) → IsSameKeys xs ys → Lacks b ys → Lacks b xs
  lacks_same b xs ys e lacks x h = let k = key_in xs ys e b x h in lacks k.0 k.1

  without_same : (b : ℕ) (xs : List (ℕ × A)) → Lacks b xs → length (without b xs) ≡ length xs
  without_same b [] h = refl
  without_same b (x ∷ xs) h = let ne : x.0 ≢ b = λ e. h x.1 (inl (λ i. (sym e i, x.1))) in
      subst (λ (k : Bool). length (if k then without b xs else x ∷ without b xs) ≡ suc (length xs)) (sym (ne_eqb x.0 b ne)) (ap suc (without_same b xs (λ y t. h y (inr t))))

  without_less : (b : ℕ) (xs : List (ℕ × A)) → IsApart xs → length xs ≤ suc (length (without b xs))
  without_less b [] h = omega arith
  without_less b (x ∷ xs) h = dite (ℕ_discrete x.0 b)
      (λ e. subst (λ (k : Bool). suc (length xs) ≤ suc (length (if k then without b xs else x ∷ without b xs))) (sym (eq-eqb x.0 b e)) (let s = without_same b xs (subst (λ k. Lacks k xs) e h.0) in omega arith))
      (λ ne. subst (λ (k : Bool). suc (length xs) ≤ suc (length (if k then without b xs else x ∷ without b xs))) (sym (ne_eqb x.0 b ne)) (let s = without_less b xs h.1 in omega arith))

  pub without_apart : (b : ℕ) (xs : List (ℕ × A)) → IsApart xs → IsApart (without b xs)
  without_apart b [] h = tt
  without_apart b (x ∷ xs) h = dite (ℕ_discrete x.0 b)
      (λ e. subst (λ (k : Bool). IsApart (if k then without b xs else x ∷ without b xs)) (sym (eq-eqb x.0 b e)) (without_apart b xs h.1))
      (λ ne. subst (λ (k : Bool). IsApart (if k then without b xs else x ∷ without b xs)) (sym (ne_eqb x.0 b ne)) ((λ y t. h.0 y (in_without b (x.0, y) xs t).0), without_apart b xs h.1))

  -- of numbers below n that stand once each, there are n at most
  pub apart_fits : (n : ℕ) (xs : List (ℕ × A)) → IsApart xs → ((b : ℕ) (x : A) → In (b, x) xs → b < n) → length xs ≤ n
  apart_fits zero [] h low = omega arith
  apart_fits zero (x ∷ xs) h low = let l = low x.0 x.1 (inl refl) in absurd (omega arith)
  apart_fits (suc n) xs h low = let r = apart_fits n (without n xs) (without_apart n xs h) (λ b x t. let i = in_without n (b, x) xs t in let l = low b x i.0 in let ne : b ≢ n = i.1 in omega arith) in
      let s = without_less n xs h in omega arith

  pub apart_last : (b : ℕ) (x : A) (xs : List (ℕ × A)) → IsApart xs → Lacks b xs → IsApart (xs ++ (b, x) ∷ [])
  apart_last b x [] h lacks = ((λ y t. absurd t), tt)
  apart_last b x (p ∷ xs) h lacks = ((λ y t. ⊎_elim (λ u. h.0 y u) (λ e. lacks p.1 (inl (λ i. (sym (ap number_of e) i, p.1)))) (in_last (p.0, y) (b, x) xs t)), apart_last b x xs h.1 (λ y t. lacks y (inr t)))

  pub emptied_last : {P T : Type 0} (b : ℕ) (x : A) (xs : List (ℕ × A)) → emptied {P = P} {X = A} {T = T} (xs ++ (b, x) ∷ []) ≡ emptied xs ++ (b + 1, Gone) ∷ []
  emptied_last b x [] = refl
  emptied_last b x (p ∷ xs) = ap (λ l. (p.0 + 1, Gone) ∷ l) (emptied_last b x xs)

  pub keys_last : {B : Type 0} (b : ℕ) (x : A) (y : B) (xs : List (ℕ × A)) (ys : List (ℕ × B)) → IsSameKeys xs ys → IsSameKeys (xs ++ (b, x) ∷ []) (ys ++ (b, y) ∷ [])
  keys_last b x y xs ys e = map-append number_of xs ((b, x) ∷ []) ∙ (ap (λ l. l ++ b ∷ []) e ∙ sym (map-append number_of ys ((b, y) ∷ [])))

abbrev pub value_or : {P X T : Type 0} → X → Slot P X T → X
value_or d (Value x) = x
value_or d s = d

abbrev pub first_value : {P X T : Type 0} → X → List (ℕ × Slot P X T) → X
first_value d [] = d
first_value d (p ∷ ps) = value_or d p.1
