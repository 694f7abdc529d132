-- A relation of each two records where one changes, and a sum of equal parts.
use Rattle.std.proofs.Common.{◌≡◌, ℕ, ◌+◌, ◌<◌, List, [], ◌∷◌, set, Some, refl, sym, ap, subst, ◌∙◌, inl, inr, arith, slice_get}
use Rattle.std.specs.Prelude.{fold}
use Rattle.drm_lists.proofs.Changed.{get_set_cases}
use Rattle.drm_state.specs.declared.journal.JobRecord.{JobRecord}
use Rattle.drm_state.specs.Lawful.{EachTwo}

-- a relation of each two records survives a change of one
pub each_two_set : (journal : List JobRecord) (f : ℕ) (r new : JobRecord) (Related : ℕ → JobRecord → ℕ → JobRecord → Type 0)
    → slice_get journal f ≡ Some r → EachTwo journal Related
    → ((j : ℕ) (y : JobRecord) → f < j → slice_get journal j ≡ Some y → Related f r j y → Related f new j y)
    → ((i : ℕ) (x : JobRecord) → i < f → slice_get journal i ≡ Some x → Related i x f r → Related i x f new)
    → EachTwo (set journal f new) Related
each_two_set journal f r new Related at old first second i j x y lt at_i at_j =
    elim (get_set_cases journal f i r new x at at_i) [
      | inl i_is ↦ elim (get_set_cases journal f j r new y at at_j) [
        | inl j_is ↦ absurd (omega (arith, lt, i_is.0, j_is.0))
        | inr j_not ↦
            let past : f < j = omega (arith, lt, i_is.0) in
            subst (λ n. Related n x j y) (sym i_is.0)
            (subst (λ z. Related f z j y) (sym i_is.1) (first j y past j_not.1 (old f j r y past at j_not.1)))
      ]
      | inr i_not ↦ elim (get_set_cases journal f j r new y at at_j) [
        | inl j_is ↦
            let before : i < f = omega (arith, lt, j_is.0) in
            subst (λ n. Related i x n y) (sym j_is.0) (subst (Related i x f) (sym j_is.1) (second i x before i_not.1 (old i f x r before i_not.1 at)))
        | inr j_not ↦ old i j x y lt i_not.1 j_not.1
      ]
    ]

-- a sum of equal parts
pub sum_by_agree : {X : Type 0} (f g : X → ℕ) (xs : List X) (a : ℕ) → ((x : X) → f x ≡ g x)
    → fold (λ n x. n + f x) a xs ≡ fold (λ n x. n + g x) a xs
sum_by_agree f g [] a same = refl
sum_by_agree f g (x ∷ xs) a same = ap (λ k. fold (λ n x. n + f x) (a + k) xs) (same x) ∙ sum_by_agree f g xs (a + g x) same
