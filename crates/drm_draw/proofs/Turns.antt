-- The turns of a line, one column more.
use Rattle.std.proofs.Common.{◌≡◌, ◌∙◌, ℕ, List, ◌∷◌, ◌++◌, ◌+◌, ◌<◌, ap, append_assoc, drop, get_or, length, sym}
use Rattle.std.proofs.lemmas.List.{drop_more}
use Rattle.drm_picture.specs.declared.command.Step.{Step}
use Rattle.drm_picture.specs.declared.picture.Picture.{Picture}
use Rattle.drm_svg.specs.Layout.{column_at}
use Rattle.drm_draw.specs.Credits.{level_next, turn_to, turns_text}

pub turns_more : (ring limit : ℕ) (picture : Picture) (row place column level next : ℕ) (part : List Step) (step : Step) (out after whole : List ℕ) → place < length part
    → step ≡ get_or part place step → column ≡ column_at picture place → next ≡ level_next ring limit picture level step
    → out ++ turns_text ring limit picture row place level (drop place part) ≡ whole → after ≡ out ++ turn_to row limit column level next
    → after ++ turns_text ring limit picture row (place + 1) next (drop (place + 1) part) ≡ whole
turns_more ring limit picture row place column level next part step out after whole within found at is so put =
    let rest = turns_text ring limit picture row (place + 1) next (drop (place + 1) part) in
    ap (λ l. l ++ rest) put
    ∙ append_assoc out (turn_to row limit column level next) rest
    ∙ ap (λ (c : ℕ). out ++ (turn_to row limit c level next ++ rest)) at
    ∙ ap (λ (n : ℕ). out ++ (turn_to row limit (column_at picture place) level n ++ turns_text ring limit picture row (place + 1) n (drop (place + 1) part))) is
    ∙ ap (λ (steps : List Step). out ++ turns_text ring limit picture row place level steps) (sym (drop_more part place step within ∙ ap (λ (s : Step). s ∷ drop (place + 1) part) (sym found)))
    ∙ so
