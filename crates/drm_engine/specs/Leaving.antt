-- How the buffers are told that a journal leaves.
use Rattle.std.specs.Prelude.{ℕ, List, map}
use Rattle.drm_state.specs.declared.answer.Answer.TheVariants as answer
use Rattle.drm_answer.specs.Answers.{text_of_answers}

-- a line for each buffer, as a dump of it is answered
abbrev pub text_of_buffers : List (List ℕ) → List ℕ
text_of_buffers buffers = text_of_answers (map answer.Bytes buffers)
