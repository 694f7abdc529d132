-- The shares of all submitters are as many jobs as were dealt.
use Rattle.std.proofs.Common.{◌≡◌, ◌<◌, ◌≤◌, ◌+◌, ◌%◌, ℕ, Bool, List, [], ◌∷◌, arith, suc, zero, refl, ap, ◌∙◌, length, Some, slice_get, inl, inr, eq-eqb, ne_eqb}
use Rattle.std.specs.Prelude.{if◌then◌else◌}
use Rattle.std.proofs.lemmas.Bool.{cases_eq}
use Rattle.std.proofs.lemmas.List.{length-append}
use Rattle.std.proofs.lemmas.Nat.{mod_below}
use Rattle.drm_workers.specs.Shares.{share_from, share_of}
use Rattle.drm_workers.specs.Reports.{all_items}

-- how many jobs the k submitters from s on get
abbrev dealt_to : {J : Type 0} → ℕ → ℕ → ℕ → ℕ → List J → ℕ
dealt_to n s zero place jobs = 0
dealt_to n s (suc k) place jobs = length (share_from n s place jobs) + dealt_to n (suc s) k place jobs

no_jobs : (J : Type 0) (n s k place : ℕ) → dealt_to {J = J} n s k place [] ≡ 0
no_jobs J n s zero place = refl
no_jobs J n s (suc k) place = let more = no_jobs J n (suc s) k place in omega (arith, more)

its_turn : {J : Type 0} (n s place : ℕ) (x : J) (xs : List J) → place % n ≡ s → length (share_from n s place (x ∷ xs)) ≡ suc (length (share_from n s (place + 1) xs))
its_turn n s place x xs e =
    ap (λ (b : Bool). length (if b then x ∷ share_from n s (place + 1) xs else share_from n s (place + 1) xs)) (eq-eqb (place % n) s e)

not_its_turn : {J : Type 0} (n s place : ℕ) (x : J) (xs : List J) → (place % n ≡ s → ⊥) → length (share_from n s place (x ∷ xs)) ≡ length (share_from n s (place + 1) xs)
not_its_turn n s place x xs e =
    ap (λ (b : Bool). length (if b then x ∷ share_from n s (place + 1) xs else share_from n s (place + 1) xs)) (ne_eqb (place % n) s e)

past : {J : Type 0} (n s k place : ℕ) (x : J) (xs : List J) → place % n < s → dealt_to n s k place (x ∷ xs) ≡ dealt_to n s k (place + 1) xs
past n s zero place x xs lt = refl
past n s (suc k) place x xs lt =
    let here = not_its_turn n s place x xs (λ e. omega (arith, lt, e)) in
    let more = past n (suc s) k place x xs (omega (arith, lt)) in
    omega (arith, here, more)

among : {J : Type 0} (n s k place : ℕ) (x : J) (xs : List J) → s ≤ place % n → place % n < s + k → dealt_to n s k place (x ∷ xs) ≡ suc (dealt_to n s k (place + 1) xs)
among n s zero place x xs from to = absurd (omega (arith, from, to))
among n s (suc k) place x xs from to = elim (cases_eq (place % n) s) [
  | inl e ↦
      let here = its_turn n s place x xs e in
      let more = past n (suc s) k place x xs (omega (arith, e)) in
      omega (arith, here, more)
  | inr ne ↦
      let here = not_its_turn n s place x xs ne in
      let more = among n (suc s) k place x xs (omega (arith, from, ne)) (omega (arith, to)) in
      omega (arith, here, more)
]

all_of_them : {J : Type 0} (n place : ℕ) (jobs : List J) → 0 < n → dealt_to n 0 n place jobs ≡ length jobs
all_of_them n place [] some = no_jobs _ n 0 n place
all_of_them n place (x ∷ xs) some =
    among n 0 n place x xs (omega arith) (omega (arith, mod_below place n some)) ∙ ap suc (all_of_them n (place + 1) xs some)

items_are : {A J V : Type 0} (items : V → List A) (n s : ℕ) (jobs : List J) (vs : List V)
    → ((k t : ℕ) (v : V) → t ≡ s + k → slice_get vs k ≡ Some v → length (items v) ≡ length (share_of n t jobs)) → length (all_items items vs) ≡ dealt_to n s (length vs) 0 jobs
items_are items n s jobs [] each = refl
items_are items n s jobs (v ∷ vs) each =
    let here = each 0 s v (omega arith) refl in
    let more = items_are items n (suc s) jobs vs (λ k t w e at. each (suc k) t w (omega (arith, e)) at) in
    length-append (items v) (all_items items vs) ∙ omega (arith, here, more)

-- where each list is as long as its submitter's share, all of them together are as long as the jobs
pub as_many_as_jobs : {A J V : Type 0} (items : V → List A) (n : ℕ) (jobs : List J) (vs : List V) → 0 < n → length vs ≡ n
    → ((s : ℕ) (v : V) → slice_get vs s ≡ Some v → length (items v) ≡ length (share_of n s jobs)) → length (all_items items vs) ≡ length jobs
as_many_as_jobs items n jobs vs some count each =
    items_are items n 0 jobs vs (λ k t v e at. let same : t ≡ k = omega (arith, e) in each t v (ap (slice_get vs) same ∙ at))
    ∙ (ap (λ k. dealt_to n 0 k 0 jobs) count ∙ all_of_them n 0 jobs some)
