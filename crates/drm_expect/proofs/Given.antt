-- What the lines of a script are answered.
use Rattle.std.proofs.Common.{◌≡◌, ℕ, zero, suc, ◌+◌, ◌-◌, ◌<◌, ◌≤◌, List, [], ◌∷◌, ◌++◌, length, map, replicate, Option, Some, None, refl, sym, ap, subst, ◌∙◌, inl, inr, arith, slice_get}
use Rattle.std.proofs.lemmas.Bool.{cases_eq}
use Rattle.drm_lists.proofs.Places.{to_map}
use Rattle.drm_state.specs.declared.answer.Answer.{Answer}
use Rattle.drm_answer.specs.Answers.{line_of}
use Rattle.drm_expect.specs.Matching.{AreExpectedBefore, IsExpectedAt, answered}
use Rattle.drm_expect.specs.declared.lines.Line.{Line}

-- what stands in front of a list, as often as that is
in_front : {X : Type 0} (n k : ℕ) (x : X) (rest : List X) → k < n → slice_get (replicate n x ++ rest) k ≡ Some x
in_front zero k x rest less = absurd (omega (arith, less))
in_front (suc n) zero x rest less = refl
in_front (suc n) (suc k) x rest less = in_front n k x rest (omega (arith, less))

behind : {X : Type 0} (n k : ℕ) (x : X) (rest : List X) → slice_get (replicate n x ++ rest) (n + k) ≡ slice_get rest k
behind zero k x rest = let same : 0 + k ≡ k = omega arith in ap (slice_get rest) same
behind (suc n) k x rest =
    let same : suc n + k ≡ suc (n + k) = omega arith in ap (slice_get (x ∷ (replicate n x ++ rest))) same ∙ behind n k x rest

pub header_given : (lines : List Line) (answers : List Answer) (place : ℕ) → place < length lines - length answers → slice_get (answered lines answers) place ≡ Some None
header_given lines answers place less =
    in_front (length lines - length answers) place None (map (λ (answer : Answer). Some (line_of answer)) answers) less

pub command_given : (lines : List Line) (answers : List Answer) (place k : ℕ) (answer : Answer) → place ≡ (length lines - length answers) + k → slice_get answers k ≡ Some answer
    → slice_get (answered lines answers) place ≡ Some (Some (line_of answer))
command_given lines answers place k answer is at =
    let rest = map (λ (answer : Answer). Some (line_of answer)) answers in
    ap (slice_get (answered lines answers)) is
    ∙ (behind (length lines - length answers) k None rest ∙ to_map (λ (answer : Answer). Some (line_of answer)) answers k answer at)

-- one line more that is answered as it is expected
pub expected_more : (lines : List Line) (answers : List Answer) (place : ℕ) → AreExpectedBefore lines answers place → IsExpectedAt lines answers place
    → AreExpectedBefore lines answers (place + 1)
expected_more lines answers place before here i less =
    elim (cases_eq i place) [
      | inl same ↦ subst (IsExpectedAt lines answers) (sym same) here
      | inr apart ↦ before i (omega (arith, less, apart))
    ]
