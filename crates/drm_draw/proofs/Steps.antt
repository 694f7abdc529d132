-- Steps: the events and the answers so far, and one more.
use Rattle.std.proofs.Common.{◌≡◌, ◌∙◌, ℕ, List, Option, [], ◌∷◌, ◌++◌, map, ap, append_assoc, append-nil, sym}
use Rattle.std.proofs.lemmas.List.{map-append}
use Rattle.drm_job.specs.declared.Draft.{Draft}
use Rattle.drm_state.specs.declared.answer.Answer.{Answer}
use Rattle.drm_core.specs.declared.event.Event.{Event}
use Rattle.drm_picture.specs.declared.command.Request.{Request}
use Rattle.drm_picture.specs.declared.command.Step.{Step}
use Rattle.drm_draw.specs.Drawing.{asked, asked_by}

-- these steps are of the events but for the rest
abbrev pub CommandsSoFar : List (Event Draft) → List (Event Draft) → List Step → Type 0
CommandsSoFar events rest steps = map asked steps ++ map asked_by rest ≡ map asked_by events

pub command_more : (events rest left : List (Event Draft)) (event : Event Draft) (steps : List Step) (step : Step) → rest ≡ event ∷ left → asked step ≡ asked_by event
    → CommandsSoFar events rest steps → CommandsSoFar events left (steps ++ step ∷ [])
command_more events rest left event steps step split is so =
    ap (λ ds. ds ++ map asked_by left) (map-append asked steps (step ∷ []))
    ∙ append_assoc (map asked steps) (asked step ∷ []) (map asked_by left)
    ∙ ap (λ (d : Event ℕ × Option Request). map asked steps ++ d ∷ map asked_by left) is
    ∙ ap (λ (es : List (Event Draft)). map asked steps ++ map asked_by es) (sym split)
    ∙ so

pub answer_more : (answers : List Answer) (steps : List Step) (step : Step) → map (λ step. step.answer) steps ≡ answers → map (λ step. step.answer) (steps ++ step ∷ []) ≡ answers ++ step.answer ∷ []
answer_more answers steps step so = map-append (λ step. step.answer) steps (step ∷ []) ∙ ap (λ given. given ++ step.answer ∷ []) so

pub commands_end : (events rest : List (Event Draft)) (steps : List Step) → rest ≡ [] → CommandsSoFar events rest steps → map asked steps ≡ map asked_by events
commands_end events rest steps none so =
    sym (append-nil (map asked steps)) ∙ ap (λ (es : List (Event Draft)). map asked steps ++ map asked_by es) (sym none) ∙ so
