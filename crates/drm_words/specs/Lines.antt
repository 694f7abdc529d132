-- The lines of answers with words beside them.
use Rattle.std.specs.Prelude.{ℕ, List, [], ◌∷◌, ◌++◌, Option, codes}
use Rattle.drm_job.specs.declared.Draft.{Draft}
use Rattle.drm_core.specs.declared.event.Event.{Event}
use Rattle.drm_core.specs.State.{CoreState}
use Rattle.drm_state.specs.declared.answer.Answer.{Answer}
use Rattle.drm_answer.specs.Answers.{words_of}
use Rattle.drm_words.specs.Because.{Missing, because, letting_go, missing_of}
use Rattle.drm_words.specs.Sentences.{sentence_of}
use Rattle.drm_words.specs.Subjects.{subject_of}

-- the answer as it is without words, two spaces, the sign and a space, and what is said of it
unfoldable pub worded_answer : Event ℕ → Answer → List ℕ
worded_answer subject answer = words_of answer ++ (codes "  # " ++ sentence_of subject answer)

-- why it is so, what it lets go, and the line end
unfoldable pub line_behind : CoreState → Event ℕ → Option Missing → Answer → List ℕ
line_behind core subject missing answer = (because core subject missing answer ++ letting_go core.device answer) ++ 10 ∷ []

-- the line of an event, of the cores before and behind it, and of its answer
unfoldable pub worded_line : CoreState → Event Draft → Answer → CoreState → List ℕ
worded_line before event answer after =
    worded_answer (subject_of event) answer ++ line_behind after (subject_of event) (missing_of before event) answer
