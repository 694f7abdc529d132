-- Marks: which steps have one, and where.
use Rattle.std.specs.Prelude.{ℕ, List, [], Option, Some, None, map, flat_map, nat_lt, option_and_then, option_map, if◌then◌else◌}
use Rattle.std.specs.List.{cons_option, enumerate_from}
use Rattle.drm_types.specs.declared.access.Access.{Access}
use Rattle.drm_state.specs.declared.answer.Answer.{Answer}
use Rattle.drm_state.specs.declared.answer.Answer.TheVariants as answer
use Rattle.drm_picture.specs.Commands.{lane_of}
use Rattle.drm_picture.specs.declared.bars.Lane.TheVariants as lane
use Rattle.drm_picture.specs.declared.command.Request.{Request}
use Rattle.drm_picture.specs.declared.command.Step.{Step}
use Rattle.drm_picture.specs.declared.marks.Mark.{Mark}
use Rattle.drm_picture.specs.declared.marks.Sign.{Sign}
use Rattle.drm_picture.specs.declared.marks.Sign.TheVariants as sign

-- what a mark says of an answer, in the lane of what the command names
abbrev pub sign_of : Answer → Option Sign
sign_of (answer.Ran fence packet) = Some sign.Ran
sign_of (answer.Stalled fence) = Some sign.Stalled
sign_of answer.Resumed = Some sign.Hang
sign_of (answer.Guilty entity) = Some sign.Guilty
sign_of (answer.Refused refusal) = Some sign.Refused
sign_of (answer.Bytes bytes) = Some sign.Given
sign_of (answer.Older holder) = Some sign.Contended
sign_of (answer.Younger holder) = Some sign.Contended
sign_of answer.Ok = Some sign.Granted
sign_of _ = None

-- the mark of a step: in the lane of what its command names, with the sign of its answer
abbrev pub mark_of : ℕ → Step → Option Mark
mark_of place step = option_and_then (λ at. option_map (λ says. record { lane = at; place = place; sign = says }) (sign_of step.answer)) (lane_of step.command)

-- the marks of a job that is planned: one for each buffer that it declares
abbrev pub marks_of_plan : ℕ → List (ℕ × Access) → List Mark
marks_of_plan place declared = map (λ d. record { lane = lane.Buffer d.0; place = place; sign = sign.Planned }) declared

abbrev pub marks_with : ℕ → Step → Answer → Option Request → List Mark
marks_with place step answer.Planned (Some request) = marks_of_plan place request.declared
marks_with place step _ _ = cons_option (mark_of place step) []

-- the marks of the step at this place, in the part that begins at another: none before its begin
abbrev pub marks_at : ℕ → ℕ → Step → List Mark
marks_at from place step = if nat_lt place from then [] else marks_with place step step.answer step.request

-- the marks of a run from a place on: those of each step, in the order of the steps, and no other
abbrev pub marks_of : ℕ → List Step → List Mark
marks_of from run = flat_map (λ p. marks_at from p.0 p.1) (enumerate_from 0 run)
