-- An answer that is the line which is expected.
use Rattle.std.proofs.Common.{◌≡◌, ℕ, zero, suc, ◌+◌, Bool, true, false, List, [], ◌∷◌, ◌++◌, length, refl, sym, ap, subst, ◌∙◌, arith}
use Rattle.std.specs.Prelude.{IsTrue}
use Rattle.std.specs.Bool.{Decides}
use Rattle.std.proofs.lemmas.List.{length_push}
use Rattle.drm_expect.specs.Matching.{Matches, MatchesBy, is_open}

-- two lists with one more at the end
pub pushed_same : (xs ys : List ℕ) (x y : ℕ) → xs ++ x ∷ [] ≡ ys ++ y ∷ [] → (xs ≡ ys) × (x ≡ y)
pushed_same [] [] x y same = (refl, cc (same))
pushed_same [] (b ∷ ys) x y same =
    let lengths : length (x ∷ []) ≡ length ((b ∷ ys) ++ y ∷ []) = ap length same in absurd (omega (arith, lengths, length_push (b ∷ ys) y))
pushed_same (a ∷ xs) [] x y same =
    let lengths : length ((a ∷ xs) ++ x ∷ []) ≡ length (y ∷ []) = ap length same in absurd (omega (arith, lengths, length_push (a ∷ xs) x))
pushed_same (a ∷ xs) (b ∷ ys) x y same =
    let heads : a ≡ b = cc (same) in
    let rests : xs ++ x ∷ [] ≡ ys ++ y ∷ [] = cc (same) in
    let rest = pushed_same xs ys x y rests in
    (cc (heads, rest.0), rest.1)

-- the line is expected whole
pub whole_to : (wanted line : List ℕ) → is_open wanted ≡ false → Matches wanted line → line ≡ wanted ++ 10 ∷ []
whole_to wanted line whole matches = let P : Bool → Type 0 = λ b. MatchesBy b wanted line in subst P whole matches

pub whole_from : (wanted line : List ℕ) → is_open wanted ≡ false → line ≡ wanted ++ 10 ∷ [] → Matches wanted line
whole_from wanted line whole same = let P : Bool → Type 0 = λ b. MatchesBy b wanted line in subst P (sym whole) same

-- it ends with a line end
pub ends_with_line : (wanted line front : List ℕ) (last : ℕ) → is_open wanted ≡ false → line ≡ front ++ last ∷ [] → Matches wanted line → (front ≡ wanted) × (last ≡ 10)
ends_with_line wanted line front last whole is matches = pushed_same front wanted last 10 (sym is ∙ whole_to wanted line whole matches)

pub is_line : (wanted line front : List ℕ) (last : ℕ) → is_open wanted ≡ false → line ≡ front ++ last ∷ [] → last ≡ 10 → front ≡ wanted → Matches wanted line
is_line wanted line front last whole is ten same =
    whole_from wanted line whole (is ∙ (ap (λ (n : ℕ). front ++ n ∷ []) ten ∙ ap (λ (ns : List ℕ). ns ++ 10 ∷ []) same))

pub decides_line : (wanted line front : List ℕ) (last : ℕ) (r : Bool) → is_open wanted ≡ false → line ≡ front ++ last ∷ [] → last ≡ 10 → Decides r (front ≡ wanted)
    → (IsTrue r → Matches wanted line) × (Matches wanted line → IsTrue r)
decides_line wanted line front last r whole is ten decides = (
  λ true. is_line wanted line front last whole is ten (decides.0 true),
  λ matches. decides.1 (ends_with_line wanted line front last whole is matches).0,
)
