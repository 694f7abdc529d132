-- How long each reason held, one change more.
use Rattle.std.proofs.Common.{◌≡◌, ℕ, zero, suc, ◌+◌, ◌≤◌, List, [], ◌∷◌, ◌++◌, Some, append_assoc, append-nil, drop, length, sym, ap, ◌∙◌, arith, slice_get}
use Rattle.std.proofs.Math.ListN.{drop_of_length-le}
use Rattle.drm_why.specs.Lines.{span_text, spans_text}
use Rattle.drm_why.specs.declared.seeing.Change.{Change}

-- what is left begins with what stands there
pub left_begins : {X : Type 0} (xs : List X) (k : ℕ) (x : X) → slice_get xs k ≡ Some x → drop k xs ≡ x ∷ drop (k + 1) xs
left_begins [] k x at = absurd (cc (at))
left_begins (y ∷ ys) zero x at = let same : y ≡ x = cc (at) in ap (λ z. z ∷ ys) same
left_begins (y ∷ ys) (suc k) x at =
    let same : suc k + 1 ≡ suc (k + 1) = omega arith in left_begins ys k x at ∙ ap (λ (n : ℕ). x ∷ drop n (y ∷ ys)) (sym same)

-- a copy so far, and one more
pub copy_more : {X : Type 0} (xs : List X) (k : ℕ) (x : X) (so_far more : List X) → slice_get xs k ≡ Some x → more ≡ so_far ++ x ∷ [] → so_far ++ drop k xs ≡ xs
    → more ++ drop (k + 1) xs ≡ xs
copy_more {X} xs k x so_far more at pushed so =
    ap (λ (ys : List X). ys ++ drop (k + 1) xs) pushed
    ∙ (append_assoc so_far (x ∷ []) (drop (k + 1) xs) ∙ (ap (λ (ys : List X). so_far ++ ys) (sym (left_begins xs k x at)) ∙ so))

pub copy_end : {X : Type 0} (xs : List X) (k : ℕ) (so_far : List X) → length xs ≤ k → so_far ++ drop k xs ≡ xs → so_far ≡ xs
copy_end {X} xs k so_far all so = sym (append-nil so_far) ∙ (ap (λ (ys : List X). so_far ++ ys) (sym (drop_of_length-le xs all)) ∙ so)

pub span_more : (changes : List Change) (place clock k : ℕ) (change : Change) (whole before after : List ℕ) → slice_get changes k ≡ Some change
    → after ≡ before ++ span_text place clock change (drop (k + 1) changes) → before ++ spans_text place clock (drop k changes) ≡ whole
    → after ++ spans_text place clock (drop (k + 1) changes) ≡ whole
span_more changes place clock k change whole before after at put so =
    ap (λ (t : List ℕ). t ++ spans_text place clock (drop (k + 1) changes)) put
    ∙ append_assoc before (span_text place clock change (drop (k + 1) changes)) (spans_text place clock (drop (k + 1) changes))
    ∙ ap (λ (cs : List Change). before ++ spans_text place clock cs) (sym (left_begins changes k change at))
    ∙ so

pub spans_end : (changes : List Change) (place clock k : ℕ) (whole before : List ℕ) → length changes ≤ k
    → before ++ spans_text place clock (drop k changes) ≡ whole → before ≡ whole
spans_end changes place clock k whole before all so =
    sym (append-nil before) ∙ ap (λ (cs : List Change). before ++ spans_text place clock cs) (sym (drop_of_length-le changes all)) ∙ so
