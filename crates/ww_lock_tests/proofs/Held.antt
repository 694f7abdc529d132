-- What follows for a list of what is held from the numbers in it.
use Rattle.std.proofs.Common.{◌≡◌, ℕ, zero, suc, List, [], ◌∷◌, length, set, map, drop, get_or, sym, refl, ap, ◌∙◌, subst, ⊎_elim, inl, inr, arith}
use mathlib.Core.Option.{some, some-injective}
use lib.ListN.{get_elem?}
use Rattle.ww_lock.specs.Rule.{In}
use Rattle.ww_lock.specs.Steps.{number_of}
use Rattle.ww_lock.specs.Held.{IsApart, IsSameKeys, Lacks}

module _ {A B : Type 0} where
  pub key_in : (xs : List (ℕ × A)) (ys : List (ℕ × B)) → IsSameKeys xs ys → (b : ℕ) (x : A) → In (b, x) xs → (y : B) × In (b, y) ys
  key_in [] ys e b x h = absurd h
  key_in (p ∷ xs) [] e b x h = absurd (let n : suc (length (map number_of xs)) ≡ 0 = ap length e in omega arith)
  key_in (p ∷ xs) (q ∷ ys) e b x h = ⊎_elim
      (λ t. (q.1, inl (λ i. ((ap number_of t ∙ ap (λ l. get_or l 0 0) e) i, q.1))))
      (λ t. let k = key_in xs ys (ap (drop 1) e) b x t in (k.0, inr k.1)) h

  pub lacks_same : (b : ℕ) (xs : List (ℕ × A)) (ys : List (ℕ × B)) → IsSameKeys xs ys → Lacks b ys → Lacks b xs
  lacks_same b xs ys e lacks x h = let k = key_in xs ys e b x h in lacks k.0 k.1

module _ {A : Type 0} where
  pub apart_same : (xs ys : List (ℕ × A)) → IsSameKeys xs ys → IsApart ys → IsApart xs
  apart_same [] ys e h = tt
  apart_same (p ∷ xs) [] e h = absurd (let n : suc (length (map number_of xs)) ≡ 0 = ap length e in omega arith)
  apart_same (p ∷ xs) (q ∷ ys) e h = let t : IsSameKeys xs ys = ap (drop 1) e in
      (subst (λ n. Lacks n xs) (sym (ap (λ l. get_or l 0 0) e)) (lacks_same q.0 xs ys t h.0), apart_same xs ys t h.1)

  pub keys_set : (xs : List (ℕ × A)) (i b : ℕ) (x w : A) → get_elem? xs i ≡ some (b, x) → IsSameKeys (set xs i (b, w)) xs
  keys_set [] i b x w e = refl
  keys_set (p ∷ xs) zero b x w e = ap (λ n. n ∷ map number_of xs) (sym (ap (λ z. z.0) (some-injective p (b, x) e)))
  keys_set (p ∷ xs) (suc i) b x w e = ap (λ l. p.0 ∷ l) (keys_set xs i b x w e)
