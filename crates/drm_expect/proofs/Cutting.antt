-- The first '=' of a line, and the lines of a test so far.
use Rattle.std.proofs.Common.{◌≡◌, ℕ, suc, ◌+◌, ◌-◌, ◌<◌, ◌≤◌, true, false, ◌==◌, List, [], ◌∷◌, ◌++◌, Some, length, append_assoc, append-nil, refl, sym, ap, subst, ◌∙◌, inl, inr, arith, slice_get}
use Rattle.std.specs.Option.{option_map_or}
use Rattle.std.proofs.lemmas.Bool.{cases_eq, cases_lt}
use Rattle.std.proofs.lemmas.Option.{slice_get_past}
use Rattle.drm_expect.specs.Lines.{AreLines, IsAdded, NoEqualsBefore, is_equals_at, last_number}
use Rattle.drm_expect.specs.declared.lines.Line.{Line}

-- ---- the first '='

-- one byte more
pub no_equals_more : (bytes : List ℕ) (k : ℕ) → NoEqualsBefore bytes k → is_equals_at bytes k ≡ false → NoEqualsBefore bytes (k + 1)
no_equals_more bytes k none other i less =
    elim (cases_eq i k) [
      | inl same ↦ subst (λ (m : ℕ). is_equals_at bytes m ≡ false) (sym same) other
      | inr apart ↦ none i (omega (arith, less, apart))
    ]

-- and behind the last
pub no_equals : (bytes : List ℕ) (k : ℕ) → length bytes ≤ k → NoEqualsBefore bytes k → (place : ℕ) → NoEqualsBefore bytes place
no_equals bytes k all none place i less =
    elim (cases_lt i k) [
      | inl before ↦ none i before
      | inr behind ↦ ap (λ o. option_map_or (λ (byte : ℕ). byte == 61) o false) (slice_get_past bytes i (omega (arith, all, behind)))
    ]

-- ---- the lines of a test

-- whatever the lines of the rest are, with those so far they are the lines of the whole
abbrev pub LinesOn : List (List ℕ) → ℕ → List (List ℕ) → List Line → Type 0
LinesOn parts number rest so_far = (more : List Line) → AreLines number rest more → AreLines 1 parts (so_far ++ more)

pub added_on : (parts rest left : List (List ℕ)) (number : ℕ) (bytes : List ℕ) (so_far now : List Line) → rest ≡ bytes ∷ left → IsAdded number bytes so_far now
    → LinesOn parts number rest so_far → LinesOn parts (number + 1) left now
added_on parts rest left number bytes so_far now split (inl (remark, same)) on more are =
    subst (λ (ls : List Line). AreLines 1 parts (ls ++ more)) (sym same)
    (on more (subst (λ (ps : List (List ℕ)). AreLines number ps more) (sym split) (inl (remark, are))))
added_on parts rest left number bytes so_far now split (inr (kept, (line, is, new))) on more are =
    subst (λ (ls : List Line). AreLines 1 parts (ls ++ more)) (sym new)
    (subst (λ (ls : List Line). AreLines 1 parts ls) (sym (append_assoc so_far (line ∷ []) more))
    (on (line ∷ more) (subst (λ (ps : List (List ℕ)). AreLines number ps (line ∷ more)) (sym split) (inr (kept, (line, more, refl, is, are))))))

pub lines_end : (parts rest : List (List ℕ)) (number : ℕ) (so_far : List Line) → rest ≡ [] → LinesOn parts number rest so_far → AreLines 1 parts so_far
lines_end parts rest number so_far none on =
    subst (λ (ls : List Line). AreLines 1 parts ls) (append-nil so_far) (on [] (subst (λ (ps : List (List ℕ)). AreLines number ps []) (sym none) refl))

-- ---- the last line

at_end : (xs : List Line) (x : Line) → slice_get (xs ++ x ∷ []) (length xs) ≡ Some x
at_end [] x = refl
at_end (y ∷ ys) x = at_end ys x

one_more : (xs : List Line) (x : Line) → length (xs ++ x ∷ []) ≡ suc (length xs)
one_more [] x = refl
one_more (y ∷ ys) x = ap suc (one_more ys x)

last_pushed : (xs : List Line) (x : Line) → last_number (xs ++ x ∷ []) ≡ x.number
last_pushed xs x =
    let count : length (xs ++ x ∷ []) - 1 ≡ length xs = omega (arith, one_more xs x) in
    ap (λ o. option_map_or (λ (line : Line). line.number) o 0) (ap (slice_get (xs ++ x ∷ [])) count ∙ at_end xs x)

-- no line has a number above that of the line which was looked at last
pub last_added : (number : ℕ) (bytes : List ℕ) (old new : List Line) → IsAdded number bytes old new → last_number old ≤ number → last_number new ≤ number
last_added number bytes old new (inl (remark, same)) before = subst (λ (ls : List Line). last_number ls ≤ number) (sym same) before
last_added number bytes old new (inr (kept, (line, is, pushed))) before =
    let told : last_number new ≡ number = ap last_number pushed ∙ last_pushed old line ∙ is.numbered in omega (arith, told)
