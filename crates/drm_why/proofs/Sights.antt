-- What is seen of a run so far, and one event more.
use Rattle.std.proofs.Common.{◌≡◌, ◌∙◌, ◌-◌, List, [], ◌∷◌, ◌++◌, Option, Some, append_assoc, append-nil, ap, arith, length, refl, slice_get, sym, subst, ℕ}
use Rattle.std.specs.Option.{option_map_or}
use Rattle.std.proofs.lemmas.List.{length_push}
use Rattle.drm_job.specs.declared.Draft.{Draft}
use Rattle.drm_state.specs.declared.answer.Answer.{Answer}
use Rattle.drm_state.specs.Grows.{Grows}
use Rattle.drm_core.specs.declared.event.Event.{Event}
use Rattle.drm_core.specs.Lawful.{IsLawful}
use Rattle.drm_core.specs.State.{CoreState}
use Rattle.drm_core.specs.Step.{Step}
use Rattle.drm_reason.specs.declared.reason.Reason.{Reason}
use Rattle.drm_reason.specs.declared.reason.Reason.TheVariants.{NotArmed}
use Rattle.drm_reason.specs.Reasons.{reason_of}
use Rattle.drm_why.specs.Seeing.{AreLinks, IsLook, IsSeen, Sees, command_of, reason_behind}
use Rattle.drm_why.specs.declared.seeing.Seen.{Seen}

-- whatever is seen of the rest, it is seen of the whole behind what was seen so far
abbrev pub SeesOn : ℕ → CoreState → List (Event Draft) → List Seen → Reason → CoreState → List (Event Draft) → Type 0
SeesOn fence start events so_far before now rest =
    (more : List Seen) (new : CoreState) → Sees fence before now rest more new → Sees fence NotArmed start events (so_far ++ more) new

pub sees_turn : (fence : ℕ) (start now next : CoreState) (events rest : List (Event Draft)) (so_far : List Seen) (before : Reason) (event : Event Draft) (answer : Answer)
    (seen : Seen) → IsLawful now → Step now event answer next → Grows now.device next.device → IsSeen fence before event next seen
    → SeesOn fence start events so_far before now (event ∷ rest) → SeesOn fence start events (so_far ++ seen ∷ []) seen.reason next rest
sees_turn fence start now next events rest so_far before event answer seen lawful step grows is sees_on more new sees =
    subst (λ (given : List Seen). Sees fence NotArmed start events given new) (sym (append_assoc so_far (seen ∷ []) more))
    (sees_on (seen ∷ more) new (lawful, (answer, next, step, grows, is, sees)))

pub sees_end : (fence : ℕ) (start now : CoreState) (events rest : List (Event Draft)) (so_far : List Seen) (before : Reason) → IsLawful now → rest ≡ []
    → SeesOn fence start events so_far before now rest → Sees fence NotArmed start events so_far now
sees_end fence start now events [] so_far before lawful none sees_on =
    subst (λ (given : List Seen). Sees fence NotArmed start events given now) (append-nil so_far) (sees_on [] now (lawful, refl))
sees_end fence start now events (event ∷ rest) so_far before lawful none sees_on = absurd (cc)

-- ---- one look

pub look_seen : (core : CoreState) (fence : ℕ) (before : Reason) (event : Event Draft) (seen : Seen)
    → IsLook core.device fence before (reason_of core.device fence) (command_of event) seen → IsSeen fence before event core seen
look_seen core fence before event seen look = record {
  command = look.command;
  reason = look.reason;
  links = subst (λ (r : Reason). AreLinks core.device fence before r seen.links) (sym look.reason) look.links;
}

-- the reason that is seen last
at_end : (seens : List Seen) (seen : Seen) → slice_get (seens ++ seen ∷ []) (length seens) ≡ Some seen
at_end [] seen = refl
at_end (other ∷ seens) seen = at_end seens seen

pub reason_pushed : (seens : List Seen) (seen : Seen) → reason_behind (seens ++ seen ∷ []) ≡ seen.reason
reason_pushed seens seen =
    let count : length (seens ++ seen ∷ []) - 1 ≡ length seens = omega (arith, length_push seens seen) in
    ap (λ (o : Option Seen). option_map_or (λ (s : Seen). s.reason) o NotArmed) (ap (slice_get (seens ++ seen ∷ [])) count ∙ at_end seens seen)
