-- Which answers are those that are expected.
use Rattle.std.specs.Prelude.{◌≡◌, ℕ, ◌-◌, ◌<◌, ◌==◌, Bool, true, false, List, [], ◌∷◌, ◌++◌, Option, Some, None, length, map, replicate, slice_get, take}
use Rattle.std.specs.Option.{option_map_or}
use Rattle.drm_state.specs.declared.answer.Answer.{Answer}
use Rattle.drm_answer.specs.Answers.{line_of}
use Rattle.drm_expect.specs.declared.lines.Line.{Line}

-- whether a '*' ends what is expected
abbrev pub is_open : List ℕ → Bool
is_open wanted = option_map_or (λ byte. byte == 42) (slice_get wanted (length wanted - 1)) false

-- the line of an answer begins with what stands before that '*', or it is the line that is expected
abbrev pub MatchesBy : Bool → List ℕ → List ℕ → Type 0
MatchesBy true wanted line = take (length wanted - 1) line ≡ take (length wanted - 1) wanted
MatchesBy false wanted line = line ≡ wanted ++ 10 ∷ []

abbrev pub Matches : List ℕ → List ℕ → Type 0
Matches wanted line = MatchesBy (is_open wanted) wanted line

-- this is expected of what was answered, or nothing is
abbrev pub AnswersAs : Option (List ℕ) → Option (List ℕ) → Type 0
AnswersAs None given = Unit {0}
AnswersAs (Some wanted) None = ⊥
AnswersAs (Some wanted) (Some line) = Matches wanted line

-- the lines of the answers that the lines of a script get: those of its header get none, and the commands behind it one
-- each
abbrev pub answered : List Line → List Answer → List (Option (List ℕ))
answered lines answers = replicate (length lines - length answers) None ++ map (λ answer. Some (line_of answer)) answers

-- the line at a place is answered as it is expected
abbrev pub IsExpectedAt : List Line → List Answer → ℕ → Type 0
IsExpectedAt lines answers place =
    (line : Line) (given : Option (List ℕ)) → slice_get lines place ≡ Some line → slice_get (answered lines answers) place ≡ Some given
    → AnswersAs line.wanted given

-- it is answered this, and that is not what is expected
abbrev pub DiffersAt : List Line → List Answer → ℕ → Option (List ℕ) → Type 0
DiffersAt lines answers place given =
    (line : Line) × (slice_get lines place ≡ Some line) × (slice_get (answered lines answers) place ≡ Some given)
    × (AnswersAs line.wanted given → ⊥)

-- all lines before a place are answered as they are expected
abbrev pub AreExpectedBefore : List Line → List Answer → ℕ → Type 0
AreExpectedBefore lines answers place = (i : ℕ) → i < place → IsExpectedAt lines answers i
