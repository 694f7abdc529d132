-- A value that is held is found in the list.
use Rattle.std.proofs.Common.{◌≡◌, ◌≢◌, ℕ, ◌+◌, ◌<◌, zero, suc, List, [], ◌∷◌, take, drop, set, map, length, get_or, sym, refl, ap, ◌∙◌, subst, ⊎_elim, inl, inr, arith, eq-eqb, ne_eqb, Bool}
use Rattle.std.specs.Prelude.{if◌then◌else◌}
use mathlib.Core.Option.{some, some-injective, some-ne-none}
use lib.ListN.{get_elem?}
use Rattle.ww_lock.specs.Rule.{In}
use Rattle.ww_lock.specs.Steps.{number_of}
use Rattle.ww_lock.specs.Held.{IsSameKeys, IsApart, Lacks, emptied, index_of}
use Rattle.ww_lock.proofs.Lists.{key_in}
use Rattle.ww_lock.proofs.Trying.{lacks_same}
use Rattle.ww_lock.specs.declared.board.Slot.TheVariants.{Gone}

module _ {A : Type 0} where
  pub lacks_more : (b : ℕ) (xs : List (ℕ × A)) (i : ℕ) (p : ℕ × A) → get_elem? xs i ≡ some p → p.0 ≢ b → Lacks b (take i xs) → Lacks b (take (suc i) xs)
  lacks_more b [] i p e ne h x t = t
  lacks_more b (q ∷ xs) zero p e ne h x t = ⊎_elim (λ s. ne (ap (λ z. z.0) (sym (some-injective q p e)) ∙ ap (λ z. z.0) (sym s))) (λ s. s) t
  lacks_more b (q ∷ xs) (suc i) p e ne h x t = ⊎_elim (λ s. h x (inl s)) (λ s. lacks_more b xs i p e ne (λ y u. h y (inr u)) x s) t

  pub first_place : (b : ℕ) (xs : List (ℕ × A)) (i : ℕ) (x : A) → get_elem? xs i ≡ some (b, x) → Lacks b (take i xs) → i ≡ index_of b xs
  first_place b [] i x e h = absurd (some-ne-none (b, x) (sym e))
  first_place b (q ∷ xs) zero x e h = let same : q.0 ≡ b = ap (λ z. z.0) (some-injective q (b, x) e) in subst (λ (k : Bool). 0 ≡ (if k then 0 else suc (index_of b xs))) (sym (eq-eqb q.0 b same)) refl
  first_place b (q ∷ xs) (suc i) x e h = let ne : q.0 ≢ b = λ same. h q.1 (inl (λ k. (sym same k, q.1))) in
      subst (λ (k : Bool). suc i ≡ (if k then 0 else suc (index_of b xs))) (sym (ne_eqb q.0 b ne)) (ap suc (first_place b xs i x e (λ y t. h y (inr t))))

  pub below : (xs : List A) (i : ℕ) (x : A) → get_elem? xs i ≡ some x → i < length xs
  below [] i x e = absurd (some-ne-none x (sym e))
  below (y ∷ xs) zero x e = omega arith
  below (y ∷ xs) (suc i) x e = let r = below xs i x e in omega arith

-- what holds of a list holds of one with the same numbers in the same order
module _ {A : Type 0} where
  same_head : (p q : ℕ × A) (xs ys : List (ℕ × A)) → IsSameKeys (p ∷ xs) (q ∷ ys) → p.0 ≡ q.0
  same_head p q xs ys e = ap (λ l. get_or l 0 0) e

  same_tail : (p q : ℕ × A) (xs ys : List (ℕ × A)) → IsSameKeys (p ∷ xs) (q ∷ ys) → IsSameKeys xs ys
  same_tail p q xs ys e = ap (drop 1) e

  pub apart_same : (xs ys : List (ℕ × A)) → IsSameKeys xs ys → IsApart ys → IsApart xs
  apart_same [] ys e h = tt
  apart_same (p ∷ xs) [] e h = absurd (let n : suc (length (map number_of xs)) ≡ 0 = ap length e in omega arith)
  apart_same (p ∷ xs) (q ∷ ys) e h = let t = same_tail p q xs ys e in (subst (λ n. Lacks n xs) (sym (same_head p q xs ys e)) (lacks_same q.0 xs ys t h.0), apart_same xs ys t h.1)

  pub within_same : (n : ℕ) (xs ys : List (ℕ × A)) → IsSameKeys xs ys → ((b : ℕ) (y : A) → In (b, y) ys → b + 1 < n) → (b : ℕ) (x : A) → In (b, x) xs → b + 1 < n
  within_same n xs ys e low b x h = let k = key_in xs ys e b x h in low b k.0 k.1

  pub emptied_same : {P T : Type 0} (xs ys : List (ℕ × A)) → IsSameKeys xs ys → emptied {P = P} {X = A} {T = T} xs ≡ emptied ys
  emptied_same [] [] e = refl
  emptied_same [] (q ∷ ys) e = absurd (let n : 0 ≡ suc (length (map number_of ys)) = ap length e in omega arith)
  emptied_same (p ∷ xs) [] e = absurd (let n : suc (length (map number_of xs)) ≡ 0 = ap length e in omega arith)
  emptied_same {P} {T} (p ∷ xs) (q ∷ ys) e = λ i. (same_head p q xs ys e i + 1, Gone) ∷ emptied_same {P = P} {T = T} xs ys (same_tail p q xs ys e) i

  pub keys_set : (xs : List (ℕ × A)) (i b : ℕ) (x w : A) → get_elem? xs i ≡ some (b, x) → IsSameKeys (set xs i (b, w)) xs
  keys_set [] i b x w e = refl
  keys_set (p ∷ xs) zero b x w e = ap (λ n. n ∷ map number_of xs) (sym (ap (λ z. z.0) (some-injective p (b, x) e)))
  keys_set (p ∷ xs) (suc i) b x w e = ap (λ l. p.0 ∷ l) (keys_set xs i b x w e)
