-- How many bytes the parts that are left have.
use Rattle.std.proofs.Common.{◌≡◌, ℕ, ◌-◌, Bool, true, false, cond, List, [], ◌∷◌, length, drop, refl, sym, ap, ◌∙◌, arith}
use Rattle.std.specs.Prelude.{nat_le}
use Rattle.std.specs.List.{join_with_byte}
use Rattle.std.proofs.lemmas.Bool.{leb-false}
use Rattle.std.proofs.lemmas.List.{length-append, length-drop}
use Rattle.std.proofs.lemmas.List.Splits.{join_with_byte-slice_split}
use Rattle.drm_text.specs.Cut.{parts_of, cut_from}

-- whatever they are joined by
joined_length : (one two : ℕ) (parts : List (List ℕ)) → length (join_with_byte one parts) ≡ length (join_with_byte two parts)
joined_length one two [] = refl
joined_length one two (part ∷ []) = refl
joined_length one two (part ∷ next ∷ parts) =
    let rest = joined_length one two (next ∷ parts) in
    omega (arith, rest, length-append part (one ∷ join_with_byte one (next ∷ parts)), length-append part (two ∷ join_with_byte two (next ∷ parts)))

in_parts : (separator other : ℕ) (text : List ℕ) → length (join_with_byte other (parts_of separator text)) ≡ length text
in_parts separator other text = joined_length other separator (parts_of separator text) ∙ ap (λ (bytes : List ℕ). length bytes) (join_with_byte-slice_split separator text)

cut_here : (separator other : ℕ) (bytes : List ℕ) (at : ℕ) (inside : Bool) → nat_le at (length bytes) ≡ inside
    → length bytes - at ≡ length (join_with_byte other (cond inside (parts_of separator (drop at bytes)) []))
cut_here separator other bytes at true is = sym (in_parts separator other (drop at bytes) ∙ length-drop at bytes)
cut_here separator other bytes at false is = let past = leb-false at (length bytes) is in omega (arith, past)

-- what is left of a text that is cut
pub left_of_cut : (separator other : ℕ) (bytes : List ℕ) (at : ℕ) → length bytes - at ≡ length (join_with_byte other (cut_from separator bytes at).parts)
left_of_cut separator other bytes at = cut_here separator other bytes at (nat_le at (length bytes)) refl
