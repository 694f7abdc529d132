-- The pairs of a table, by places.
use Rattle.std.proofs.Common.{◌≡◌, ◌≢◌, ℕ, zero, suc, ◌+◌, ◌≤◌, Bool, true, false, ◌==◌, cond, List, [], ◌∷◌, set, length, replicate, Option, Some, None, refl, sym, ap, subst, ◌∙◌, arith, slice_get}
use Rattle.std.specs.Prelude.{filter}
use Rattle.std.specs.List.{AllByRecursion}
use Rattle.std.specs.List.Sorted.{IsPermutation}
use Rattle.std.proofs.lemmas.List.Sums.{sum_by-cons}
use Rattle.std.proofs.lemmas.List.Sorted.{IsPermutation-refl, IsPermutation-sym, IsPermutation-trans, IsPermutation-cons, IsPermutation-middle}
use Rattle.drm_fence.specs.declared.pair.Pair.{Pair}
use Rattle.drm_fence.specs.Waiting.{unmet_in}
use Rattle.drm_fence.specs.Cells.{pairs_in}

pub pairs_none : (n : ℕ) → pairs_in (replicate n None) ≡ []
pairs_none zero = refl
pairs_none (suc n) = pairs_none n

-- what holds of each pair
pub holds_at : (Q : Pair → Type 0) (cells : List (Option Pair)) (k : ℕ) (p : Pair) → AllByRecursion Q (pairs_in cells) → slice_get cells k ≡ Some (Some p) → Q p
holds_at Q [] k p all at = absurd (cc (at))
holds_at Q (None ∷ cells) zero p all at = absurd (cc (at))
holds_at Q (None ∷ cells) (suc k) p all at = holds_at Q cells k p all at
holds_at Q (Some q ∷ cells) zero p all at = let same : q ≡ p = cc (at) in subst Q same all.0
holds_at Q (Some q ∷ cells) (suc k) p all at = holds_at Q cells k p all.1 at

-- how many pairs one more makes
unmet_cons : (q : Pair) (pairs : List Pair) (e : ℕ) → unmet_in (q ∷ pairs) e ≡ cond (q.entity == e) 1 0 + unmet_in pairs e
unmet_cons q pairs e = sum_by-cons (λ (p : Pair). cond (p.entity == e) 1 0) q pairs

-- one pair taken out
pub filter_taken : (keep : Pair → Bool) (cells : List (Option Pair)) (k : ℕ) (p : Pair) → slice_get cells k ≡ Some (Some p) → keep p ≡ false
    → filter keep (pairs_in (set cells k None)) ≡ filter keep (pairs_in cells)
filter_taken keep [] k p at out = absurd (cc (at))
filter_taken keep (None ∷ cells) zero p at out = absurd (cc (at))
filter_taken keep (None ∷ cells) (suc k) p at out = filter_taken keep cells k p at out
filter_taken keep (Some q ∷ cells) zero p at out =
    let same : q ≡ p = cc (at) in
    sym (ap (λ t. cond t (q ∷ filter keep (pairs_in cells)) (filter keep (pairs_in cells))) (ap keep same ∙ out))
filter_taken keep (Some q ∷ cells) (suc k) p at out =
    ap (λ l. cond (keep q) (q ∷ l) l) (filter_taken keep cells k p at out)

pub unmet_taken : (cells : List (Option Pair)) (k : ℕ) (p : Pair) (e : ℕ) → slice_get cells k ≡ Some (Some p)
    → unmet_in (pairs_in cells) e ≡ cond (p.entity == e) 1 0 + unmet_in (pairs_in (set cells k None)) e
unmet_taken [] k p e at = absurd (cc (at))
unmet_taken (None ∷ cells) zero p e at = absurd (cc (at))
unmet_taken (None ∷ cells) (suc k) p e at = unmet_taken cells k p e at
unmet_taken (Some q ∷ cells) zero p e at =
    let same : q ≡ p = cc (at) in unmet_cons q (pairs_in cells) e ∙ ap (λ (z : Pair). cond (z.entity == e) 1 0 + unmet_in (pairs_in cells) e) same
unmet_taken (Some q ∷ cells) (suc k) p e at =
    omega (arith, unmet_cons q (pairs_in cells) e, unmet_cons q (pairs_in (set cells k None)) e, unmet_taken cells k p e at)

-- nothing is left to take out
pub filter_kept : (keep : Pair → Bool) (cells : List (Option Pair)) → ((k : ℕ) (p : Pair) → slice_get cells k ≡ Some (Some p) → keep p ≡ true)
    → filter keep (pairs_in cells) ≡ pairs_in cells
filter_kept keep [] all = refl
filter_kept keep (None ∷ cells) all = filter_kept keep cells (λ k p at. all (suc k) p at)
filter_kept keep (Some q ∷ cells) all =
    ap (λ t. cond t (q ∷ filter keep (pairs_in cells)) (filter keep (pairs_in cells))) (all zero q refl)
    ∙ ap (λ l. q ∷ l) (filter_kept keep cells (λ k p at. all (suc k) p at))

-- one pair more
pub pairs_more : (cells : List (Option Pair)) (k : ℕ) (p : Pair) → slice_get cells k ≡ Some None → IsPermutation (p ∷ pairs_in cells) (pairs_in (set cells k (Some p)))
pairs_more [] k p at = absurd (cc (at))
pairs_more (None ∷ cells) zero p at = IsPermutation-refl (p ∷ pairs_in cells)
pairs_more (None ∷ cells) (suc k) p at = pairs_more cells k p at
pairs_more (Some q ∷ cells) zero p at = absurd (cc (at))
pairs_more (Some q ∷ cells) (suc k) p at =
    IsPermutation-trans (p ∷ (q ∷ pairs_in cells)) (q ∷ (p ∷ pairs_in cells)) (q ∷ pairs_in (set cells k (Some p)))
    (IsPermutation-sym (q ∷ (p ∷ pairs_in cells)) (p ∷ (q ∷ pairs_in cells)) (IsPermutation-middle (q ∷ []) p (pairs_in cells)))
    (IsPermutation-cons q (p ∷ pairs_in cells) (pairs_in (set cells k (Some p))) (pairs_more cells k p at))

pub unmet_more : (cells : List (Option Pair)) (k : ℕ) (p : Pair) (e : ℕ) → slice_get cells k ≡ Some None
    → unmet_in (pairs_in (set cells k (Some p))) e ≡ cond (p.entity == e) 1 0 + unmet_in (pairs_in cells) e
unmet_more [] k p e at = absurd (cc (at))
unmet_more (None ∷ cells) zero p e at = unmet_cons p (pairs_in cells) e
unmet_more (None ∷ cells) (suc k) p e at = unmet_more cells k p e at
unmet_more (Some q ∷ cells) zero p e at = absurd (cc (at))
unmet_more (Some q ∷ cells) (suc k) p e at =
    omega (arith, unmet_cons q (pairs_in cells) e, unmet_cons q (pairs_in (set cells k (Some p))) e, unmet_more cells k p e at)

-- no more pairs than places
pub unmet_within : (cells : List (Option Pair)) (e : ℕ) → unmet_in (pairs_in cells) e ≤ length cells
unmet_within [] e = omega arith
unmet_within (None ∷ cells) e = omega (arith, unmet_within cells e)
unmet_within (Some q ∷ cells) e =
    let one : unmet_in (q ∷ pairs_in cells) e ≡ cond (q.entity == e) 1 0 + unmet_in (pairs_in cells) e = unmet_cons q (pairs_in cells) e in
    elim (q.entity == e) as (λ t. unmet_in (q ∷ pairs_in cells) e ≡ cond t 1 0 + unmet_in (pairs_in cells) e → unmet_in (q ∷ pairs_in cells) e ≤ suc (length cells)) [
      | true ↦ λ is. omega (arith, is, unmet_within cells e)
      | false ↦ λ is. omega (arith, is, unmet_within cells e)
    ] one

-- an entity that no pair has waits for nothing
pub unmet_none : (cells : List (Option Pair)) (e : ℕ) → ((k : ℕ) (p : Pair) → slice_get cells k ≡ Some (Some p) → (p.entity == e) ≡ false)
    → unmet_in (pairs_in cells) e ≡ 0
unmet_none [] e none = refl
unmet_none (None ∷ cells) e none = unmet_none cells e (λ k p at. none (suc k) p at)
unmet_none (Some q ∷ cells) e none =
    unmet_cons q (pairs_in cells) e ∙ (ap (λ t. cond t 1 0 + unmet_in (pairs_in cells) e) (none zero q refl)
    ∙ ap (λ n. 0 + n) (unmet_none cells e (λ k p at. none (suc k) p at)))

-- a place that is cleared, whether it had a pair or not
pub filter_cleared : (keep : Pair → Bool) (cells : List (Option Pair)) (k : ℕ) → ((p : Pair) → slice_get cells k ≡ Some (Some p) → keep p ≡ false)
    → filter keep (pairs_in (set cells k None)) ≡ filter keep (pairs_in cells)
filter_cleared keep [] k out = refl
filter_cleared keep (None ∷ cells) zero out = refl
filter_cleared keep (Some q ∷ cells) zero out = filter_taken keep (Some q ∷ cells) zero q refl (out q refl)
filter_cleared keep (None ∷ cells) (suc k) out = filter_cleared keep cells k out
filter_cleared keep (Some q ∷ cells) (suc k) out = ap (λ l. cond (keep q) (q ∷ l) l) (filter_cleared keep cells k out)

pub one_less : (cells : List (Option Pair)) (k : ℕ) (p : Pair) → slice_get cells k ≡ Some (Some p) → length (pairs_in cells) ≡ suc (length (pairs_in (set cells k None)))
one_less [] k p at = absurd (cc (at))
one_less (None ∷ cells) zero p at = absurd (cc (at))
one_less (None ∷ cells) (suc k) p at = one_less cells k p at
one_less (Some q ∷ cells) zero p at = refl
one_less (Some q ∷ cells) (suc k) p at = ap suc (one_less cells k p at)

pub still_none : (cells : List (Option Pair)) (k : ℕ) → ((p : Pair) → slice_get cells k ≢ Some (Some p)) → set cells k None ≡ cells
still_none [] k none = refl
still_none (None ∷ cells) zero none = refl
still_none (Some q ∷ cells) zero none = absurd (none q refl)
still_none (c ∷ cells) (suc k) none = ap (λ l. c ∷ l) (still_none cells k none)
