-- The slots that a seat has out are turned.
use Rattle.std.proofs.Common.{◌≡◌, ℕ, zero, suc, List, [], ◌∷◌, ◌++◌, length, sym, refl, ap, ◌∙◌, append-nil, append_assoc}
use Rattle.atomic_table.specs.Table.{turned}
use Rattle.ww_lock.specs.Held.{turned_by}

module _ {A : Type 0} where
  first_turn : (n : ℕ) (c : List (ℕ × A)) → turned_by n (turned c) ≡ turned (turned_by n c)
  first_turn zero c = refl
  first_turn (suc n) c = ap turned (first_turn n c)

  -- after as many turns as there are slots in front, those stand behind the others
  pub turned_whole : (xs ys : List (ℕ × A)) → turned_by (length xs) (xs ++ ys) ≡ ys ++ xs
  turned_whole [] ys = sym (append-nil ys)
  turned_whole (x ∷ xs) ys = sym (first_turn (length xs) (x ∷ xs ++ ys)) ∙ (ap (turned_by (length xs)) (append_assoc xs ys (x ∷ [])) ∙ (turned_whole xs (ys ++ x ∷ []) ∙ append_assoc ys (x ∷ []) xs))
