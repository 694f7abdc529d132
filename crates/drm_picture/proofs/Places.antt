-- Lists with their places, one element more.
use Rattle.std.proofs.Common.{◌≡◌, ◌∙◌, ℕ, suc, Bool, true, false, cond, List, [], ◌∷◌, ◌++◌, ◌+◌, ◌<◌, ◌≤◌, Option, Some, None, Bor, ap, append-nil, append_assoc, drop, refl, reverse, sym, arith, find, flat_map, length, map, position, take, get_or, slice_get, unwrap_or}
use Rattle.std.specs.Prelude.{nat_lt}
use Rattle.std.specs.List.{cons_option, enumerate_from, filter_map, position_or_len}
use Rattle.std.specs.Option.{option_copied}
use Rattle.std.specs.Slice.{IsItemAt}
use Rattle.std.proofs.lemmas.Bool.{ltb-true, ltb-false}
use Rattle.std.proofs.lemmas.Option.{slice_get-get_or, slice_get_past}
use Rattle.std.proofs.lemmas.List.Folds.{find_at}
use Rattle.std.proofs.Math.Seq.{take-suc}
use Rattle.std.proofs.lemmas.Grind.{flat_map-append}
use Rattle.std.proofs.lemmas.List.{get_or_default, length-take-le, map-append, reverse-append}
use Rattle.std.proofs.lemmas.List.Elements.{filter_map-append}

pub enumerate_from-snoc : {X : Type 0} (n : ℕ) (xs : List X) (x : X) → enumerate_from n (xs ++ x ∷ []) ≡ enumerate_from n xs ++ (n + length xs, x) ∷ []
enumerate_from-snoc n [] x = let e : n + 0 ≡ n = omega arith in rw e refl
enumerate_from-snoc n (y ∷ ys) x =
    let e : n + 1 + length ys ≡ n + length (y ∷ ys) = omega arith in
    ap (λ l. (n, y) ∷ l) (enumerate_from-snoc (n + 1) ys x ∙ ap (λ (m : ℕ). enumerate_from (n + 1) ys ++ (m, x) ∷ []) e)

-- what is taken, and one element more
pub take-more : {X : Type 0} (xs : List X) (place : ℕ) (x : X) → place < length xs → x ≡ get_or xs place x → take (place + 1) xs ≡ take place xs ++ x ∷ []
take-more xs place x within found =
    let one : place + 1 ≡ suc place = omega arith in
    ap (λ n. take n xs) one ∙ take-suc xs place x within ∙ ap (λ y. take place xs ++ y ∷ []) (sym found)

-- one element more, with its place
pub placed_more : {X : Type 0} (xs : List X) (place : ℕ) (x : X) → place < length xs → x ≡ get_or xs place x
    → enumerate_from 0 (take (place + 1) xs) ≡ enumerate_from 0 (take place xs) ++ (place, x) ∷ []
placed_more xs place x within found =
    let le : place ≤ length xs = omega arith in
    let same : length (take place xs) ≡ place = length-take-le place xs le in
    let few : 0 + length (take place xs) ≡ place = omega (arith, same) in
    ap (enumerate_from 0) (take-more xs place x within found)
    ∙ enumerate_from-snoc 0 (take place xs) x
    ∙ ap (λ (n : ℕ). enumerate_from 0 (take place xs) ++ (n, x) ∷ []) few

-- the next element, of which something is made
pub made_next : {X Y : Type 0} (h : ℕ × X → Y) (xs : List X) (place : ℕ) (d : X) (ys : List Y) → place < length xs
    → ys ≡ map h (enumerate_from 0 (take place xs)) → ys ++ h (place, get_or xs place d) ∷ [] ≡ map h (enumerate_from 0 (take (place + 1) xs))
made_next h xs place d ys within so =
    let x = get_or xs place d in
    let found : x ≡ get_or xs place x = get_or_default xs place d x within in
    ap (λ l. l ++ h (place, x) ∷ []) so
    ∙ sym (map-append h (enumerate_from 0 (take place xs)) ((place, x) ∷ []))
    ∙ ap (map h) (sym (placed_more xs place x within found))

-- one element more, of which something is kept or nothing
pub kept_more : {X Y : Type 0} (h : ℕ × X → Option Y) (xs : List X) (place : ℕ) (x : X) (ys : List Y) → place < length xs → x ≡ get_or xs place x
    → ys ≡ filter_map h (enumerate_from 0 (take place xs)) → ys ++ cons_option (h (place, x)) [] ≡ filter_map h (enumerate_from 0 (take (place + 1) xs))
kept_more h xs place x ys within found so =
    ap (λ l. l ++ cons_option (h (place, x)) []) so
    ∙ sym (filter_map-append h (enumerate_from 0 (take place xs)) ((place, x) ∷ []))
    ∙ ap (filter_map h) (sym (placed_more xs place x within found))

-- one element more, which gives a list
pub joined_more : {X Y : Type 0} (h : ℕ × X → List Y) (xs : List X) (place : ℕ) (x : X) (ys : List Y) → place < length xs → x ≡ get_or xs place x
    → ys ≡ flat_map h (enumerate_from 0 (take place xs)) → ys ++ h (place, x) ≡ flat_map h (enumerate_from 0 (take (place + 1) xs))
joined_more h xs place x ys within found so =
    ap (λ l. l ++ h (place, x)) so
    ∙ ap (λ l. flat_map h (enumerate_from 0 (take place xs)) ++ l) (sym (append-nil (h (place, x))))
    ∙ sym (flat_map-append h (enumerate_from 0 (take place xs)) ((place, x) ∷ []))
    ∙ ap (flat_map h) (sym (placed_more xs place x within found))

-- the next element, of which something is kept behind what there was before, or nothing
pub kept_next : {X Y : Type 0} (h : X → Option Y) (xs : List X) (place : ℕ) (x : X) (old ys : List Y) → place < length xs → x ≡ get_or xs place x
    → ys ≡ old ++ filter_map h (take place xs) → ys ++ cons_option (h x) [] ≡ old ++ filter_map h (take (place + 1) xs)
kept_next h xs place x old ys within found so =
    ap (λ l. l ++ cons_option (h x) []) so
    ∙ append_assoc old (filter_map h (take place xs)) (cons_option (h x) [])
    ∙ ap (λ l. old ++ l) (sym (filter_map-append h (take place xs) (x ∷ [])) ∙ ap (filter_map h) (sym (take-more xs place x within found)))

-- one element more, of which something is told behind what was told before, or nothing
pub told_more : {X Y Z : Type 0} (h : ℕ × X → Option Y) (f : Y → Z) (xs : List X) (place : ℕ) (x : X) (old zs : List Z) → place < length xs → x ≡ get_or xs place x
    → zs ≡ old ++ map f (filter_map h (enumerate_from 0 (take place xs))) → zs ++ map f (cons_option (h (place, x)) []) ≡ old ++ map f (filter_map h (enumerate_from 0 (take (place + 1) xs)))
told_more h f xs place x old zs within found so =
    let kept = filter_map h (enumerate_from 0 (take place xs)) in
    ap (λ l. l ++ map f (cons_option (h (place, x)) [])) so
    ∙ append_assoc old (map f kept) (map f (cons_option (h (place, x)) []))
    ∙ ap (λ l. old ++ l) (sym (map-append f kept (cons_option (h (place, x)) [])) ∙ ap (map f) (kept_more h xs place x kept within found refl))

-- what is lent of a list
pub lent_is : {X : Type 0} (xs : List X) (i : ℕ) (r : Option (Bor X)) → IsItemAt xs i r → option_copied r ≡ slice_get xs i
lent_is xs i None is = sym (slice_get_past xs i (ltb-false i (length xs) (sym is.0)))
lent_is xs i (Some x) is = sym (slice_get-get_or xs i x.now (ltb-true i (length xs) (sym is.0)) ∙ ap Some (sym is.1))

found-by : {X : Type 0} (xs : List X) (at : ℕ) (b : Bool) → nat_lt at (length xs) ≡ b → slice_get xs (unwrap_or (cond b (Some at) None) (length xs)) ≡ slice_get xs at
found-by xs at true within = refl
found-by xs at false past =
    let le : length xs ≤ length xs = omega arith in
    slice_get_past xs (length xs) le ∙ sym (slice_get_past xs at (ltb-false at (length xs) past))

-- what stands at the place of the first element that passes is the first that passes
pub found_at : {X : Type 0} (p : X → Bool) (xs : List X) → slice_get xs (unwrap_or (position p xs) (length xs)) ≡ find p xs
found_at p xs = found-by xs (position_or_len p xs) (nat_lt (position_or_len p xs) (length xs)) refl ∙ sym (find_at p xs)

pub reverse-cons_option : {Y : Type 0} (ys : List Y) (found : Option Y) → reverse (ys ++ cons_option found []) ≡ cons_option found (reverse ys)
reverse-cons_option ys None = ap reverse (append-nil ys)
reverse-cons_option ys (Some y) = reverse-append ys (y ∷ [])

-- from the end on, one element more, of which something is kept or nothing
pub kept_before : {X Y : Type 0} (h : ℕ × X → Option Y) (xs : List X) (place : ℕ) (x : X) (ys : List Y) → drop place xs ≡ x ∷ drop (place + 1) xs
    → reverse ys ≡ filter_map h (enumerate_from (place + 1) (drop (place + 1) xs)) → reverse (ys ++ cons_option (h (place, x)) []) ≡ filter_map h (enumerate_from place (drop place xs))
kept_before h xs place x ys split so =
    reverse-cons_option ys (h (place, x))
    ∙ ap (cons_option (h (place, x))) so
    ∙ ap (λ l. filter_map h (enumerate_from place l)) (sym split)
