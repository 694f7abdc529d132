-- A line for each number, and one more.
use Rattle.std.proofs.Common.{◌≡◌, ℕ, suc, ◌+◌, ◌<◌, ◌≤◌, List, [], ◌∷◌, ◌++◌, drop, length, Some, refl, sym, ap, subst, ◌∙◌, append_assoc, append-nil, map, arith, slice_get}
use Rattle.std.specs.Prelude.{flat_map}
use Rattle.std.specs.List.{enumerate_from}
use Rattle.std.proofs.Math.ListN.{drop_of_length-le}
use Rattle.drm_lists.proofs.Places.{get_numbered, stands_within}
use Rattle.drm_core.proofs.Telling.{told_all, told_more}
use Rattle.drm_why.proofs.Spans.{left_begins}

-- numbers are as many as what is numbered
length_numbered : {X : Type 0} (xs : List X) (n : ℕ) → length (enumerate_from n xs) ≡ length xs
length_numbered [] n = refl
length_numbered (x ∷ xs) n = ap suc (length_numbered xs (n + 1))

pub line_more : {X : Type 0} (line : ℕ → List ℕ) (xs : List X) (i : ℕ) (out more whole : List ℕ) → i < length xs → more ≡ out ++ line i
    → out ++ flat_map (λ (r : ℕ × X). line r.0) (drop i (enumerate_from 0 xs)) ≡ whole
    → more ++ flat_map (λ (r : ℕ × X). line r.0) (drop (i + 1) (enumerate_from 0 xs)) ≡ whole
line_more {X} line xs i out more whole less put so =
    let r = stands_within xs i less in
    let same : 0 + i ≡ i = omega arith in
    told_more (λ (r : ℕ × X). line r.0) (enumerate_from 0 xs) i (i, r.0) out more whole
    (get_numbered xs 0 i r.0 r.1 ∙ ap (λ (m : ℕ). Some (m, r.0)) same) put so

pub lines_end : {X : Type 0} (line : ℕ → List ℕ) (xs : List X) (i : ℕ) (out whole : List ℕ) → length xs ≤ i
    → out ++ flat_map (λ (r : ℕ × X). line r.0) (drop i (enumerate_from 0 xs)) ≡ whole → out ≡ whole
lines_end {X} line xs i out whole all so =
    told_all (λ (r : ℕ × X). line r.0) (enumerate_from 0 xs) i out whole (subst (λ (k : ℕ). k ≤ i) (sym (length_numbered xs 0)) all) so

-- ---- what is kept of each number

pub kept_more : {X Y : Type 0} (of : ℕ → Y) (xs : List X) (i : ℕ) (out more whole : List Y) (y : Y) → i < length xs → y ≡ of i → more ≡ out ++ y ∷ []
    → out ++ map (λ (r : ℕ × X). of r.0) (drop i (enumerate_from 0 xs)) ≡ whole
    → more ++ map (λ (r : ℕ × X). of r.0) (drop (i + 1) (enumerate_from 0 xs)) ≡ whole
kept_more {X} {Y} of xs i out more whole y less is put so =
    let r = stands_within xs i less in
    let same : 0 + i ≡ i = omega arith in
    let rest = map (λ (r : ℕ × X). of r.0) (drop (i + 1) (enumerate_from 0 xs)) in
    let at : slice_get (enumerate_from 0 xs) i ≡ Some (i, r.0) = get_numbered xs 0 i r.0 r.1 ∙ ap (λ (m : ℕ). Some (m, r.0)) same in
    ap (λ (ys : List Y). ys ++ rest) put
    ∙ (append_assoc out (y ∷ []) rest
    ∙ (ap (λ (z : Y). out ++ z ∷ rest) is
    ∙ (ap (λ (ns : List (ℕ × X)). out ++ map (λ (r : ℕ × X). of r.0) ns) (sym (left_begins (enumerate_from 0 xs) i (i, r.0) at)) ∙ so)))

pub kept_end : {X Y : Type 0} (of : ℕ → Y) (xs : List X) (i : ℕ) (out whole : List Y) → length xs ≤ i
    → out ++ map (λ (r : ℕ × X). of r.0) (drop i (enumerate_from 0 xs)) ≡ whole → out ≡ whole
kept_end {X} {Y} of xs i out whole all so =
    sym (append-nil out)
    ∙ (ap (λ (ns : List (ℕ × X)). out ++ map (λ (r : ℕ × X). of r.0) ns)
    (sym (drop_of_length-le (enumerate_from 0 xs) (subst (λ (k : ℕ). k ≤ i) (sym (length_numbered xs 0)) all))) ∙ so)
