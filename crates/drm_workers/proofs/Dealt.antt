-- Jobs are dealt one by one.
use Rattle.std.proofs.Common.{◌≡◌, ◌==◌, ◌%◌, ◌+◌, ℕ, Bool, true, false, List, [], ◌∷◌, ◌++◌, length, set, Some, slice_get, sym, ap, ◌∙◌, subst, arith, inl, inr, eq-eqb, ne_eqb, All}
use Rattle.std.specs.Prelude.{if◌then◌else◌}
use Rattle.std.proofs.lemmas.Bool.{cases_eq}
use Rattle.std.proofs.lemmas.Option.{slice_get_within, get_or_from_slice_get}
use Rattle.std.proofs.lemmas.List.{append_assoc, append-nil, length-set}
use Rattle.drm_lists.proofs.Changed.{get_set_same, get_set_other}
use Rattle.drm_workers.specs.Shares.{share_from, share_of, AreShares}

-- there are n lists, and each becomes its submitter's share with what the rest gives it
abbrev pub FitRest : {J V : Type 0} → (V → List J) → ℕ → ℕ → List J → List J → List V → Type 0
FitRest items n place jobs rest shares =
    (length shares ≡ n) × ((s : ℕ) (v : _) → slice_get shares s ≡ Some v → items v ++ share_from n s place rest ≡ share_of n s jobs)

-- at first all lists are empty
pub none_dealt : {J V : Type 0} (items : V → List J) (n : ℕ) (jobs : List J) (shares : List V) → length shares ≡ n → All (λ v. items v ≡ []) shares
    → FitRest items n 0 jobs jobs shares
none_dealt items n jobs shares count empty = (
  count,
  λ s v at.
      let here : items v ≡ [] = subst (λ w. items w ≡ []) (get_or_from_slice_get shares s v v at) (empty s v (slice_get_within shares s v at)) in
      ap (λ given. given ++ share_from n s 0 jobs) here,
)

-- one job goes to the list whose turn it is
pub one_dealt : {J V : Type 0} (items : V → List J) (n place : ℕ) (jobs rest : List J) (x : J) (shares new : List V) (v w : V)
    → slice_get shares (place % n) ≡ Some v → items w ≡ items v ++ x ∷ [] → new ≡ set shares (place % n) w
    → FitRest items n place jobs (x ∷ rest) shares → FitRest items n (place + 1) jobs rest new
one_dealt {J} {V} items n place jobs rest x shares new v w at more is fit = subst (FitRest items n (place + 1) jobs rest) (sym is) (length-set shares (place % n) w ∙ fit.0, each) where
  each : (s : ℕ) (u : V) → slice_get (set shares (place % n) w) s ≡ Some u → items u ++ share_from n s (place + 1) rest ≡ share_of n s jobs
  each s u is = elim (cases_eq s (place % n)) [
    | inl same ↦
        let given : u ≡ w = cc (get_set_same shares (place % n) v w at, is, same) in
        let turn : (place % n == s) ≡ true = eq-eqb (place % n) s (sym same) in
        ap (λ z. items z ++ share_from n s (place + 1) rest) given
        ∙ (ap (λ z. z ++ share_from n s (place + 1) rest) more
        ∙ (append_assoc (items v) (x ∷ []) (share_from n s (place + 1) rest)
        ∙ (ap (λ (b : Bool). items v ++ (if b then x ∷ share_from n s (place + 1) rest else share_from n s (place + 1) rest)) (sym turn)
        ∙ fit.1 s v (ap (slice_get shares) same ∙ at))))
    | inr apart ↦
        let turn : (place % n == s) ≡ false = ne_eqb (place % n) s (λ e. apart (sym e)) in
        ap (λ (b : Bool). items u ++ (if b then x ∷ share_from n s (place + 1) rest else share_from n s (place + 1) rest)) (sym turn)
        ∙ fit.1 s u (sym (get_set_other shares (place % n) s w apart) ∙ is)
  ]

-- where none is left, the lists are the shares
pub all_dealt : {J V : Type 0} (items : V → List J) (n place : ℕ) (jobs rest : List J) (shares : List V) → length rest ≡ 0
    → FitRest items n place jobs rest shares → AreShares items n jobs shares
all_dealt items n place jobs [] shares none fit = (fit.0, λ s v at. sym (append-nil (items v)) ∙ fit.1 s v at)
all_dealt items n place jobs (x ∷ rest) shares none fit = absurd (omega (arith, none))
