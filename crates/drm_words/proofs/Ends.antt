-- A line without its end.
use Rattle.std.proofs.Common.{◌≡◌, ◌-◌, ℕ, List, [], ◌∷◌, ◌++◌, length, take, append_assoc, sym, ap, ◌∙◌, arith}
use Rattle.std.proofs.Math.Seq.{take-append_seam}
use Rattle.std.proofs.lemmas.List.{length-append}
use Rattle.drm_state.specs.declared.answer.Answer.{Answer}
use Rattle.drm_answer.specs.Answers.{line_of, words_of}

-- what is left of a line whose last byte was taken
pub without_end : (old line left : List ℕ) (answer : Answer) → line ≡ old ++ line_of answer → left ≡ take (length line - 1) line → left ≡ old ++ words_of answer
unfolding line_of
without_end old line left answer put taken =
    let text = old ++ words_of answer in
    let is : line ≡ text ++ 10 ∷ [] = put ∙ sym (append_assoc old (words_of answer) (10 ∷ [])) in
    let long : length line - 1 ≡ length text = omega (arith, ap length is, length-append text (10 ∷ [])) in
    taken ∙ ap (λ (n : ℕ). take n line) long ∙ ap (take (length text)) is ∙ take-append_seam text (10 ∷ [])
