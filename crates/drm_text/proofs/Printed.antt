-- A line whose bytes are all printable has no fault, and a text of such lines is cut into them.
use Rattle.std.proofs.Common.{◌≡◌, ℕ, ◌+◌, ◌==◌, ◌||◌, Bool, true, false, cond, List, [], ◌∷◌, length, Ok, refl, sym, ap, ◌∙◌, subst, arith, le-leb}
use Rattle.std.proofs.lemmas.Bool.{and_parts}
use Rattle.std.specs.List.{list_all, onto_first}
use Rattle.drm_text.specs.Cut.{Cut, cut_from, parts_of}
use Rattle.drm_text.specs.Lines.{is_printable, is_of_lines, AreText, text_fault}

pub no_fault : (line column : ℕ) (bytes : List ℕ) → list_all is_printable bytes ≡ true → text_fault line column bytes ≡ Ok tt
no_fault line column [] all = refl
no_fault line column (byte ∷ bytes) all =
    let parts = and_parts (is_printable byte) (list_all is_printable bytes) all in
    rw parts.0 (no_fault line (column + 1) bytes parts.1)

-- one byte more, in the first line
text_onto : (byte : ℕ) (lines : List (List ℕ)) → is_printable byte ≡ true → AreText lines → AreText (onto_first byte lines)
text_onto byte [] is all = (rw is refl, tt)
text_onto byte (line ∷ lines) is all = (rw (is, all.0) refl, all.1)

is_first : (b : Bool) → (b || false) ≡ true → b ≡ true
is_first true is = refl
is_first false is = is

-- one byte more, which may end a line
text_more : (byte : ℕ) (lines : List (List ℕ)) (is_end : Bool) → (is_printable byte || is_end) ≡ true → AreText lines
    → AreText (cond is_end ([] ∷ lines) (onto_first byte lines))
text_more byte lines true is all = (refl, all)
text_more byte lines false is all = text_onto byte lines (is_first (is_printable byte) is) all

lines_are_text : (text : List ℕ) → list_all is_of_lines text ≡ true → AreText (parts_of 10 text)
lines_are_text [] all = (refl, tt)
lines_are_text (byte ∷ text) all =
    let parts = and_parts (is_of_lines byte) (list_all is_of_lines text) all in
    text_more byte (parts_of 10 text) (byte == 10) parts.0 (lines_are_text text parts.1)

-- the first line and those behind it, where all of the text is of lines
pub cut_lines_are_text : (text : List ℕ) (cut : Cut) (first : List ℕ) (more : List (List ℕ)) → cut ≡ cut_from 10 text 0 → cut.parts ≡ first ∷ more
    → list_all is_of_lines text ≡ true → AreText (first ∷ more)
cut_lines_are_text text cut first more is begun all =
    let whole : (cut_from 10 text 0).parts ≡ parts_of 10 text = rw (le-leb 0 (length text) (omega arith)) refl in
    subst (λ (lines : List (List ℕ)). AreText lines) (sym whole ∙ sym (ap (λ (c : Cut). c.parts) is) ∙ begun) (lines_are_text text all)
