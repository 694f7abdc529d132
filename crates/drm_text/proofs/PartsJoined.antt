-- Parts that are joined and cut again.
use Rattle.std.proofs.Common.{◌≡◌, ◌≢◌, ℕ, ◌==◌, Bool, true, false, cond, List, [], ◌∷◌, ap, refl, ◌∙◌, eq-eqb}
use Rattle.std.specs.List.{All, AllByRecursion, join_with_byte, onto_first}
use Rattle.std.proofs.lemmas.Bool.{ne_eqb, eqb-false}
use Rattle.std.proofs.lemmas.List.Elements.{All-weaker, All-from_recursion}
use Rattle.std.proofs.lemmas.List.Splits.{slice_split_at, slice_split_none}
use Rattle.drm_text.specs.Cut.{parts_of}
use Rattle.drm_text.specs.Laws.{IsFree}

fails : (separator : ℕ) (part : List ℕ) → IsFree separator part → All (λ b. (b == separator) ≡ false) part
fails separator part free =
    All-weaker (λ b. b ≢ separator) (λ b. (b == separator) ≡ false) (λ b other. ne_eqb b separator other) part (All-from_recursion (λ b. b ≢ separator) part free)

pub joined_cut : (separator : ℕ) (first : List ℕ) (rest : List (List ℕ)) → AllByRecursion (IsFree separator) (first ∷ rest)
    → parts_of separator (join_with_byte separator (first ∷ rest)) ≡ first ∷ rest
joined_cut separator first [] free = slice_split_none (λ b. b == separator) first (fails separator first free.0)
joined_cut separator first (second ∷ rest) free =
    slice_split_at (λ b. b == separator) first separator (join_with_byte separator (second ∷ rest)) (fails separator first free.0) (eq-eqb separator separator refl)
    ∙ ap (λ (parts : List (List ℕ)). first ∷ parts) (joined_cut separator second rest free.1)

free_onto : (separator byte : ℕ) (parts : List (List ℕ)) → byte ≢ separator → AllByRecursion (IsFree separator) parts
    → AllByRecursion (IsFree separator) (onto_first byte parts)
free_onto separator byte [] other free = ((other, tt), tt)
free_onto separator byte (part ∷ rest) other free = ((other, free.0), free.1)

free_more : (separator byte : ℕ) (parts : List (List ℕ)) (is_end : Bool) → (byte == separator) ≡ is_end → AllByRecursion (IsFree separator) parts
    → AllByRecursion (IsFree separator) (cond is_end ([] ∷ parts) (onto_first byte parts))
free_more separator byte parts true is free = (tt, free)
free_more separator byte parts false is free = free_onto separator byte parts (eqb-false byte separator is) free

pub parts_free : (separator : ℕ) (text : List ℕ) → AllByRecursion (IsFree separator) (parts_of separator text)
parts_free separator [] = (tt, tt)
parts_free separator (byte ∷ text) = free_more separator byte (parts_of separator text) (byte == separator) refl (parts_free separator text)
