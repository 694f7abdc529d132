-- The room that a line needs.
use Rattle.std.specs.Prelude.{ℕ, ◌+◌, ◌*◌, length}
use Rattle.drm_state.specs.declared.answer.Answer.{Answer}
use Rattle.drm_state.specs.declared.answer.Answer.TheVariants as answer

-- room in which the line of an answer finds a place
abbrev pub line_room : Answer → ℕ
line_room (answer.Bytes bytes) = 7 + 2 * length bytes
line_room other = 80
