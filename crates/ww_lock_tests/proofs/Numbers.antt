-- How often a number stands in a list, and what counts it.
use Rattle.std.proofs.Common.{◌≡◌, ◌≢◌, ℕ, ◌+◌, ◌≤◌, ◌<◌, All, zero, suc, List, [], ◌∷◌, ◌++◌, length, set, sym, refl, ap, ◌∙◌, subst, ⊎_elim, inl, inr, ◌⊎◌, arith, eq-eqb, ne_eqb, Bool}
use Rattle.std.specs.Prelude.{if◌then◌else◌}
use Rattle.std.proofs.lemmas.List.{length-map}
use mathlib.Core.Logic.{dite}
use mathlib.Core.Option.{some, some-injective, some-ne-none}
use native.Mathlib.Decide.{ℕ_discrete}
use lib.ListN.{get_elem?}
use Rattle.ww_lock.proofs.Lists.{at_in}
use Rattle.ww_lock.specs.Rule.{In}
use Rattle.ww_lock.specs.Steps.{number_of}
use Rattle.ww_lock.specs.Held.{IsApart, IsSameKeys}
use Rattle.ww_lock_tests.specs.Numbers.{Counts, count_of}

pub count_most : (b : ℕ) (ns : List ℕ) → count_of b ns ≤ length ns
count_most b [] = omega arith
count_most b (n ∷ ns) = let r = count_most b ns in dite (ℕ_discrete n b)
    (λ e. subst (λ (k : Bool). (if k then 1 else 0) + count_of b ns ≤ suc (length ns)) (sym (eq-eqb n b e)) (omega arith))
    (λ ne. subst (λ (k : Bool). (if k then 1 else 0) + count_of b ns ≤ suc (length ns)) (sym (ne_eqb n b ne)) (omega arith))

pub count_here : (b : ℕ) (ns : List ℕ) → count_of b (ns ++ b ∷ []) ≡ count_of b ns + 1
count_here b [] = ap (λ (k : Bool). (if k then 1 else 0) + 0) (eq-eqb b b refl)
count_here b (n ∷ ns) = let r = count_here b ns in omega arith

pub count_else : (d b : ℕ) (ns : List ℕ) → b ≢ d → count_of d (ns ++ b ∷ []) ≡ count_of d ns
count_else d b [] ne = ap (λ (k : Bool). (if k then 1 else 0) + 0) (ne_eqb b d ne)
count_else d b (n ∷ ns) ne = let r = count_else d b ns ne in omega arith

pub keys_long : {A B : Type 0} (xs : List (ℕ × A)) (ys : List (ℕ × B)) → IsSameKeys xs ys → length xs ≡ length ys
keys_long xs ys e = sym (length-map xs number_of) ∙ ap length e ∙ length-map ys number_of

module _ {A : Type 0} where
  -- what stands in a list where the value of b became w
  in_set : (xs : List (ℕ × A)) (i b d : ℕ) (x w y : A) → IsApart xs → get_elem? xs i ≡ some (b, x) → In (d, y) (set xs i (b, w)) → ((d ≡ b) × (y ≡ w)) ⊎ ((b ≢ d) × In (d, y) xs)
  in_set [] i b d x w y h e t = absurd (some-ne-none (b, x) (sym e))
  in_set (q ∷ xs) zero b d x w y h e t = ⊎_elim (λ s. inl (ap (λ z. z.0) s, ap (λ z. z.1) s))
      (λ s. inr ((λ same. h.0 y (subst (λ n. In (n, y) xs) (sym same ∙ ap (λ z. z.0) (sym (some-injective q (b, x) e))) s)), inr s)) t
  in_set (q ∷ xs) (suc i) b d x w y h e t = ⊎_elim
      (λ s. inr ((λ same. h.0 x (subst (λ n. In (n, x) xs) (same ∙ ap (λ z. z.0) s) (at_in xs i (b, x) e))), inl s))
      (λ s. ⊎_elim (λ l. inl l) (λ r. inr (r.0, inr r.1)) (in_set xs i b d x w y h.1 e s)) t

  pub counted : (times : A → ℕ) (b : ℕ) (ns ns' : List ℕ) (xs : List (ℕ × A)) (i : ℕ) (x w : A) → IsApart xs → Counts times ns xs → get_elem? xs i ≡ some (b, x) → times w ≡ times x + 1 → ns' ≡ ns ++ b ∷ [] → Counts times ns' (set xs i (b, w))
  counted times b ns ns' xs i x w h c e n p d y t = subst (λ l. times y ≡ count_of d l) (sym p) (⊎_elim
      (λ s. ap times s.1 ∙ n ∙ ap (λ k. k + 1) (c b x (at_in xs i (b, x) e)) ∙ sym (count_here b ns) ∙ ap (λ k. count_of k (ns ++ b ∷ [])) (sym s.0))
      (λ s. c d y s.1 ∙ sym (count_else d b ns s.0))
      (in_set xs i b d x w y h e t))

pub both_below : (n a b : ℕ) → a < n → b < n → All (λ x. x < n) (a ∷ b ∷ [])
both_below n a b p q zero d l = p
both_below n a b p q (suc zero) d l = q
both_below n a b p q (suc (suc k)) d l = absurd (omega arith)
