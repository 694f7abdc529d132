-- A queue has no more numbers than there are places.
use Rattle.std.proofs.Common.{◌≡◌, ◌≢◌, ℕ, zero, suc, ◌+◌, ◌<◌, ◌≤◌, true, false, ◌||◌, eqb, List, [], ◌∷◌, length, Some, refl, sym, ap, subst, arith, slice_get}
use Rattle.std.specs.List.{IsDistinct, AllByRecursion, list_any}
use Rattle.std.proofs.lemmas.Bool.{eqb-true}
use Rattle.std.proofs.lemmas.Map.Steps.{length-le_from_distinct_below}
use Rattle.drm_entity.specs.declared.entities.Links.{Links}
use Rattle.drm_entity.specs.Linked.{queue_of, StandsAt, IsLinked}
use Rattle.drm_entity.proofs.Walks.{length_walk}

all_apart : (x : ℕ) (xs : List ℕ) → ((k n : ℕ) → slice_get xs k ≡ Some n → x ≢ n) → AllByRecursion (λ y. eqb x y ≡ false) xs
all_apart x [] apart = tt
all_apart x (y ∷ xs) apart = (differs, all_apart x xs (λ k n at. apart (suc k) n at))
  where
    differs : eqb x y ≡ false
    differs = elim (eqb x y) as (λ t. eqb x y ≡ t → t ≡ false) [ true ↦ λ is. absurd (apart zero y refl (eqb-true x y is)) | false ↦ λ is. refl ] refl

distinct_from : (xs : List ℕ) → ((a b n : ℕ) → slice_get xs a ≡ Some n → slice_get xs b ≡ Some n → a ≡ b) → IsDistinct eqb xs
unfolding IsDistinct
distinct_from [] once = tt
distinct_from (x ∷ xs) once = (
  all_apart x xs (λ k n at same. absurd (omega (arith, once zero (suc k) n (ap Some same) at))),
  distinct_from xs (λ a b n at_a at_b. omega (arith, once (suc a) (suc b) n at_a at_b)),
)

below_from : (xs : List ℕ) (bound : ℕ) → ((k n : ℕ) → slice_get xs k ≡ Some n → n < bound) → (q : ℕ) → list_any (eqb q) xs ≡ true → q < bound
below_from [] bound below q is = let never : false ≡ true = is in absurd (cc (never))
below_from (x ∷ xs) bound below q is =
    elim (eqb q x) as (λ t. eqb q x ≡ t → (t || list_any (eqb q) xs) ≡ true → q < bound) [
      | true ↦ λ here any. omega (arith, eqb-true q x here, below zero x refl)
      | false ↦ λ here any. below_from xs bound (λ k n at. below (suc k) n at) q any
    ] refl is

pub queue_fits : (next : List ℕ) (links : List Links) (e number : ℕ) (l : Links) → IsLinked next links → slice_get links e ≡ Some l
    → number < length next → ((i a : ℕ) → StandsAt next links i a number → ⊥) → l.len + 1 ≤ length next
queue_fits next links e number l is at fits fresh =
    let most = length-le_from_distinct_below (number ∷ queue_of next l) (length next) (distinct_from (number ∷ queue_of next l) once)
    (below_from (number ∷ queue_of next l) (length next) below) in omega (arith, most, length_walk next l.first l.len)
  where
    stands : (a n : ℕ) → slice_get (queue_of next l) a ≡ Some n → StandsAt next links e a n
    stands a n at_a = record { link = l; is_link = at; at = at_a }

    once : (a b n : ℕ) → slice_get (number ∷ queue_of next l) a ≡ Some n → slice_get (number ∷ queue_of next l) b ≡ Some n → a ≡ b
    once zero zero n at_a at_b = refl
    once zero (suc b) n at_a at_b =
        let same : number ≡ n = cc (at_a) in absurd (fresh e b (subst (λ k. StandsAt next links e b k) (sym same) (stands b n at_b)))
    once (suc a) zero n at_a at_b =
        let same : number ≡ n = cc (at_b) in absurd (fresh e a (subst (λ k. StandsAt next links e a k) (sym same) (stands a n at_a)))
    once (suc a) (suc b) n at_a at_b = let one = is.apart e e a b n (stands a n at_a) (stands b n at_b) in ap suc one.1

    below : (k n : ℕ) → slice_get (number ∷ queue_of next l) k ≡ Some n → n < length next
    below zero n at_k = let same : number ≡ n = cc (at_k) in omega (arith, fits, same)
    below (suc k) n at_k = is.within e k n (stands k n at_k)
