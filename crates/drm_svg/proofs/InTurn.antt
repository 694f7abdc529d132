-- Fences that are in turn are found by their numbers.
use Rattle.std.proofs.Common.{◌≡◌, ◌∙◌, ℕ, suc, ◌+◌, ◌-◌, ◌<◌, ◌≤◌, ◌==◌, List, [], ◌∷◌, Some, None, refl, sym, ap, arith, length, inl, inr, find, eq-eqb, Option}
use Rattle.std.specs.Borrow.{Bor}
use Rattle.std.specs.Prelude.{slice_get}
use Rattle.std.specs.Option.{option_copied}
use Rattle.std.specs.Slice.{IsItemAt}
use Rattle.std.proofs.lemmas.Bool.{cases_lt, ltb-false, ltb-true, ne_eqb}
use Rattle.std.proofs.lemmas.Option.{slice_get-get_or, slice_get_past}
use Rattle.drm_svg.specs.declared.placing.Placed.{Placed}
use Rattle.drm_svg.specs.Fences.{AreInTurn}

-- the fences behind the first
behind : (first : ℕ) (fence : Placed) (fences : List Placed) → AreInTurn first (fence ∷ fences) → AreInTurn (first + 1) fences
behind first fence fences turn k d within = let next = turn (suc k) d (omega arith) in omega (arith, next)

-- the fence that is lent of a place
pub lent_at : (fences : List Placed) (place : ℕ) (lent : Option (Bor Placed)) → IsItemAt fences place lent → option_copied lent ≡ slice_get fences place
lent_at fences place None is = sym (slice_get_past fences place (ltb-false place (length fences) (sym is.0)))
lent_at fences place (Some fence) is = sym (slice_get-get_or fences place fence.now (ltb-true place (length fences) (sym is.0)) ∙ ap (λ (p : Placed). Some p) (sym is.1))

-- none has a number below that of the first
pub none_before : (fences : List Placed) (first number : ℕ) → AreInTurn first fences → number < first → find (λ (p : Placed). p.bar.opening.number == number) fences ≡ None
none_before [] first number turn below = refl
none_before (fence ∷ fences) first number turn below =
    let here = turn 0 fence (omega arith) in
    rw (ne_eqb fence.bar.opening.number number (λ same. omega (arith, here, same)), none_before fences (first + 1) number (behind first fence fences turn) (omega arith)) refl

-- a number tells the place
pub found_in_turn : (fences : List Placed) (first number : ℕ) → AreInTurn first fences → first ≤ number
    → find (λ (p : Placed). p.bar.opening.number == number) fences ≡ slice_get fences (number - first)
found_in_turn [] first number turn from = refl
found_in_turn (fence ∷ fences) first number turn from =
    let here = turn 0 fence (omega arith) in
    elim (cases_lt first number) [
      | inl more ↦
          let place : number - first ≡ suc (number - (first + 1)) = omega arith in
          let other = ne_eqb fence.bar.opening.number number (λ same. omega (arith, here, same)) in
          rw (other, place) (found_in_turn fences (first + 1) number (behind first fence fences turn) (omega arith))
      | inr least ↦
          let place : number - first ≡ 0 = omega arith in
          let same : fence.bar.opening.number ≡ number = omega (arith, here) in
          rw (eq-eqb fence.bar.opening.number number same, place) refl
    ]
