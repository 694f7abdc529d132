-- What is seen of the rings in a run so far, and one event more.
use Rattle.std.proofs.Common.{◌≡◌, ℕ, List, [], ◌∷◌, ◌++◌, append_assoc, append-nil, refl, sym, subst}
use Rattle.drm_job.specs.declared.Draft.{Draft}
use Rattle.drm_state.specs.declared.answer.Answer.{Answer}
use Rattle.drm_state.specs.Grows.{Grows}
use Rattle.drm_core.specs.declared.event.Event.{Event}
use Rattle.drm_core.specs.Lawful.{IsLawful}
use Rattle.drm_core.specs.State.{CoreState}
use Rattle.drm_core.specs.Step.{Step}
use Rattle.drm_why.specs.Rings.{IsRow, SeesRows}
use Rattle.drm_why.specs.Seeing.{clock_behind, command_of}
use Rattle.drm_why.specs.declared.rings.Row.{Row}

-- whatever is seen of the rest, it is seen of the whole behind what was seen so far
abbrev pub RowsOn : CoreState → List (Event Draft) → List Row → ℕ → CoreState → List (Event Draft) → Type 0
RowsOn start events so_far clock now rest =
    (more : List Row) (new : CoreState) → SeesRows clock now rest more new → SeesRows 0 start events (so_far ++ more) new

pub rows_turn : (start now next : CoreState) (events rest : List (Event Draft)) (so_far : List Row) (clock : ℕ) (event : Event Draft) (answer : Answer) (row : Row)
    → IsLawful now → Step now event answer next → Grows now.device next.device → IsRow next.device (clock_behind clock (command_of event)) row
    → RowsOn start events so_far clock now (event ∷ rest)
    → RowsOn start events (so_far ++ row ∷ []) (clock_behind clock (command_of event)) next rest
rows_turn start now next events rest so_far clock event answer row lawful step grows is rows_on more new sees =
    subst (λ (given : List Row). SeesRows 0 start events given new) (sym (append_assoc so_far (row ∷ []) more))
    (rows_on (row ∷ more) new (lawful, (answer, next, step, grows, is, sees)))

pub rows_end : (start now : CoreState) (events rest : List (Event Draft)) (so_far : List Row) (clock : ℕ) → IsLawful now → rest ≡ []
    → RowsOn start events so_far clock now rest → SeesRows 0 start events so_far now
rows_end start now events [] so_far clock lawful none rows_on =
    subst (λ (given : List Row). SeesRows 0 start events given now) (append-nil so_far) (rows_on [] now (lawful, refl))
rows_end start now events (event ∷ rest) so_far clock lawful none rows_on = absurd (cc)
