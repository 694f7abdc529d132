-- Numbers of which none stands before itself are distinct.
use Rattle.std.proofs.Common.{◌≡◌, ℕ, false, ◌==◌, ◌||◌, eqb, List, [], ◌∷◌, ◌++◌, None, refl, ◌∙◌, sym, ap}
use Rattle.std.specs.List.{IsDistinct, AllByRecursion, list_any}
use Rattle.std.proofs.lemmas.Bool.{or_parts}
use Rattle.std.proofs.lemmas.List.Folds.{list_any-append}
use Rattle.std.proofs.lemmas.Map.Keys.{IsDistinct-cons, IsDistinct-head, IsDistinct-tail}
use Rattle.drm_types.specs.Firsts.{when}
use Rattle.drm_job.specs.Fault.{repeat_after}
use Rattle.drm_types.proofs.Firsts.{none_first, first_of_one, none_more, none_where, false_where}

-- a number that is not among these
abbrev pub IsNew : List ℕ → ℕ → Type 0
IsNew before x = list_any (λ y. y == x) before ≡ false

-- what is new after one more was new before it, and is another
pub was_new : (before : List ℕ) (x : ℕ) (zs : List ℕ) → AllByRecursion (IsNew (before ++ x ∷ [])) zs → AllByRecursion (IsNew before) zs
was_new before x [] new = tt
was_new before x (z ∷ zs) new =
    let both = or_parts (list_any (λ y. y == z) before) ((x == z) || false) (sym (list_any-append (λ y. y == z) before (x ∷ [])) ∙ new.0) in
    (both.0, was_new before x zs new.1)

pub are_others : (before : List ℕ) (x : ℕ) (zs : List ℕ) → AllByRecursion (IsNew (before ++ x ∷ [])) zs → AllByRecursion (λ z. eqb x z ≡ false) zs
are_others before x [] new = tt
are_others before x (z ∷ zs) new =
    let both = or_parts (list_any (λ y. y == z) before) ((x == z) || false) (sym (list_any-append (λ y. y == z) before (x ∷ [])) ∙ new.0) in
    ((or_parts (x == z) false both.1).0, are_others before x zs new.1)

-- what is new and another stays new after one more
pub stay_new : (before : List ℕ) (x : ℕ) (zs : List ℕ) → AllByRecursion (IsNew before) zs → AllByRecursion (λ z. eqb x z ≡ false) zs
    → AllByRecursion (IsNew (before ++ x ∷ [])) zs
stay_new before x [] new others = tt
stay_new before x (z ∷ zs) new others = (
  list_any-append (λ y. y == z) before (x ∷ [])
      ∙ (ap (λ b. b || ((x == z) || false)) new.0 ∙ ap (λ b. false || (b || false)) others.0),
  stay_new before x zs new.1 others.1,
)

-- no numbers are distinct
pub distinct_none : IsDistinct eqb []
unfolding IsDistinct
distinct_none = tt

-- where no number repeats, each is new and they are distinct
pub distinct_from : (before xs : List ℕ) → repeat_after before xs ≡ None → AllByRecursion (IsNew before) xs × IsDistinct eqb xs
distinct_from before [] none = (tt, distinct_none)
distinct_from before (x ∷ xs) none =
    let parts = none_first (when (list_any (λ y. y == x) before) x) (repeat_after (before ++ x ∷ []) xs ∷ []) none in
    let later = distinct_from (before ++ x ∷ []) xs (sym (first_of_one (repeat_after (before ++ x ∷ []) xs)) ∙ parts.1) in (
      (false_where (list_any (λ y. y == x) before) x parts.0, was_new before x xs later.0),
      IsDistinct-cons eqb x xs (are_others before x xs later.0) later.1,
    )

-- where each is new and they are distinct, no number repeats
pub none_repeats : (before xs : List ℕ) → AllByRecursion (IsNew before) xs → IsDistinct eqb xs → repeat_after before xs ≡ None
none_repeats before [] new distinct = refl
none_repeats before (x ∷ xs) new distinct =
    none_more (when (list_any (λ y. y == x) before) x) (repeat_after (before ++ x ∷ []) xs ∷ []) (none_where (list_any (λ y. y == x) before) x new.0)
    (first_of_one (repeat_after (before ++ x ∷ []) xs)
    ∙ none_repeats (before ++ x ∷ []) xs (stay_new before x xs new.1 (IsDistinct-head eqb x xs distinct)) (IsDistinct-tail eqb x xs distinct))
