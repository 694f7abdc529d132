-- Lists with their places, one element more.
use Rattle.std.proofs.Common.{◌≡◌, ◌∙◌, ℕ, List, [], ◌∷◌, ◌++◌, ◌+◌, ◌<◌, ◌≤◌, ap, append-nil, append_assoc, refl, sym, subst, arith, below_more, flat_map, length, take, get_or}
use Rattle.std.specs.List.{enumerate_from}
use Rattle.std.proofs.lemmas.Grind.{flat_map-append}
use Rattle.std.proofs.lemmas.List.{get_or_append_left, get_or_at, get_or_default, length-append, take-append-le, take_at}
use Rattle.drm_picture.proofs.Places.{placed_more}

-- one element more, of which a text is told
pub told_more : {X : Type 0} (h : ℕ × X → List ℕ) (xs : List X) (place : ℕ) (d : X) → place < length xs
    → flat_map h (enumerate_from 0 (take (place + 1) xs)) ≡ flat_map h (enumerate_from 0 (take place xs)) ++ h (place, get_or xs place d)
told_more h xs place d within =
    let x = get_or xs place d in
    let found : x ≡ get_or xs place x = get_or_default xs place d x within in
    ap (flat_map h) (placed_more xs place x within found)
    ∙ flat_map-append h (enumerate_from 0 (take place xs)) ((place, x) ∷ [])
    ∙ ap (λ l. flat_map h (enumerate_from 0 (take place xs)) ++ l) (append-nil (h (place, x)))

-- one element more, of which a text is told behind another text
pub told_behind : {X : Type 0} (h : ℕ × X → List ℕ) (xs : List X) (place : ℕ) (d : X) (old before after : List ℕ) → place < length xs
    → before ≡ old ++ flat_map h (enumerate_from 0 (take place xs)) → after ≡ before ++ h (place, get_or xs place d)
    → after ≡ old ++ flat_map h (enumerate_from 0 (take (place + 1) xs))
told_behind h xs place d old before after within so put =
    put
    ∙ ap (λ l. l ++ h (place, get_or xs place d)) so
    ∙ append_assoc old (flat_map h (enumerate_from 0 (take place xs))) (h (place, get_or xs place d))
    ∙ ap (λ l. old ++ l) (sym (told_more h xs place d within))

-- what holds of each element and of those before it, of one element more
pub each_more : {X : Type 0} (P : List X → X → Type 0) (xs : List X) (x : X)
    → ((k : ℕ) (d : X) → k < length xs → P (take k xs) (get_or xs k d)) → P xs x
    → (k : ℕ) (d : X) → k < length (xs ++ x ∷ []) → P (take k (xs ++ x ∷ [])) (get_or (xs ++ x ∷ []) k d)
each_more {X} P xs x old new k d within =
    let long : length (xs ++ x ∷ []) ≡ length xs + 1 = length-append xs (x ∷ []) in
    let Q : ℕ → Type 0 = λ (n : ℕ). P (take n (xs ++ x ∷ [])) (get_or (xs ++ x ∷ []) n d) in
    let below : (n : ℕ) → n < length xs → Q n =
    λ n lt.
    let le : n ≤ length xs = omega arith in
    subst (λ (l : List X). P l (get_or (xs ++ x ∷ []) n d)) (sym (take-append-le n xs (x ∷ []) le))
    (subst (λ (y : X). P (take n xs) y) (sym (get_or_append_left xs (x ∷ []) d n lt)) (old n d lt)) in
    let here : Q (length xs) =
    subst (λ (l : List X). P l (get_or (xs ++ x ∷ []) (length xs) d)) (sym (take_at xs (x ∷ []) (length xs) refl))
    (subst (λ (y : X). P xs y) (sym (get_or_at xs x [] d (length xs) refl)) new) in
    below_more Q (length xs) below here k (omega arith)
