use Rattle.std.proofs.Common.{◌∙◌, ◌++◌, List, ℕ, ap, sym}
use Rattle.drm_words.proofs.Refusals.{armed_otherwise}
use Rattle.drm_words.proofs.sentences.place_armed.Goals as goal

pub returns-in_default : goal.returns-in_default
returns-in_default c =
    (rw c.entity_in.ensures at (rw c.from-in_default.ensures at c.place_two-in_default.ensures))
    ∙ ap (λ (t : List ℕ). c.args.piece.now ++ t) (sym (armed_otherwise c.args.subject.now c.args.fence c.in_default.not-Arm))
