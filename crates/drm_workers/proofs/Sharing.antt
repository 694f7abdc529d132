-- What holds of all jobs holds of each share.
use Rattle.std.proofs.Common.{◌==◌, ◌%◌, ◌+◌, ℕ, Bool, true, false, List, [], ◌∷◌, All, sym, subst}
use Rattle.std.specs.Prelude.{if◌then◌else◌}
use Rattle.std.proofs.lemmas.List.Elements.{All-cons, All-head, All-tail}
use Rattle.std.proofs.lemmas.Option.{slice_get-get_or}
use Rattle.drm_workers.specs.Shares.{AreShares, share_from}

of_share : {J : Type 0} (P : J → Type 0) (n s place : ℕ) (jobs : List J) → All P jobs → All P (share_from n s place jobs)
of_share P n s place [] all = all
of_share P n s place (x ∷ xs) all =
    let rest = of_share P n s (place + 1) xs (All-tail P x xs all) in
    elim (place % n == s) as (λ (b : Bool). All P (if b then x ∷ share_from n s (place + 1) xs else share_from n s (place + 1) xs)) [
      | true ↦ All-cons P x (share_from n s (place + 1) xs) (All-head P x xs all) rest
      | false ↦ rest
    ]

pub of_shares : {J V : Type 0} (P : J → Type 0) (items : V → List J) (n : ℕ) (jobs : List J) (shares : List V) → All P jobs → AreShares items n jobs shares
    → All (λ v. All P (items v)) shares
of_shares P items n jobs shares all are k d lt = subst (All P) (sym (are.1 k _ (slice_get-get_or shares k d lt))) (of_share P n k 0 jobs all)
