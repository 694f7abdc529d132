-- How the first of several causes is found: what fits is passed over, and the first that does not is told.
use Rattle.std.proofs.Common.{◌≡◌, List, [], ◌∷◌, Option, Some, None, Result, Ok, Err, Bool, true, false, ap, sym, subst, ◌∙◌, ℕ}
use Rattle.std.specs.Prelude.{MatchResult, option_map, position, not}
use Rattle.std.specs.Result.{IsErr, IsErrAnd}
use Rattle.drm_types.specs.declared.spec.BadSpec.{BadSpec}
use Rattle.drm_types.specs.Firsts.{first_of}
use Rattle.drm_types.specs.Limits.{each}

pub first_of_skip : {F : Type 0} (o : Option F) (rest : List (Option F)) → o ≡ None → first_of (o ∷ rest) ≡ first_of rest
first_of_skip o rest none = ap (λ x. first_of (x ∷ rest)) none

pub first_of_stop : {F : Type 0} (o : Option F) (rest : List (Option F)) (f : F) → o ≡ Some f → first_of (o ∷ rest) ≡ Some f
first_of_stop o rest f some = ap (λ x. first_of (x ∷ rest)) some

-- an error that is handed on as it is tells the fault
pub told : {T F : Type 0} (r : Result T F) (bad : F) (fault : Option F) → IsErr r × IsErrAnd r (λ e. e ≡ bad) → fault ≡ Some bad
    → MatchResult r (λ _. fault ≡ None) (λ f. fault ≡ Some f)
told (Ok x) bad fault h is = let never : false ≡ true = h.0 in absurd (cc (never))
told (Err f) bad fault h is = is ∙ ap (λ z. Some z) (sym h.1)

-- the last cause decides, where the others were passed over
pub told_last : {T F : Type 0} (r : Result T F) (last fault : Option F) → fault ≡ first_of (last ∷ []) → MatchResult r (λ _. last ≡ None) (λ f. last ≡ Some f)
    → MatchResult r (λ _. fault ≡ None) (λ f. fault ≡ Some f)
told_last (Ok x) last fault is h = is ∙ ap (λ o. first_of (o ∷ [])) h
told_last (Err f) last fault is h = is ∙ ap (λ o. first_of (o ∷ [])) h

-- an element of a part
abbrev pub fault_at : ℕ → ℕ → BadSpec
fault_at part i = record { part = part; index = i }

-- the first bad element decides a part
pub each_told : {T X : Type 0} (r : Result T BadSpec) (part : ℕ) (fits : X → Bool) (xs ys : List X) (o : Option ℕ)
    → o ≡ position (λ x. not (fits x)) xs → xs ≡ ys
    → MatchResult r (λ _. option_map (fault_at part) o ≡ None) (λ f. option_map (fault_at part) o ≡ Some f)
    → MatchResult r (λ _. each part fits ys ≡ None) (λ f. each part fits ys ≡ Some f)
each_told r part fits xs ys o place same h =
    subst
    (λ fault. MatchResult r (λ _. fault ≡ None) (λ f. fault ≡ Some f))
    (ap (option_map (fault_at part)) (place ∙ ap (position (λ x. not (fits x))) same))
    h
