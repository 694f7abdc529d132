use Rattle.std.proofs.Common.{◌∙◌, ◌++◌, List, ℕ, ap, sym}
use Rattle.drm_engine.specs.Filling.{filled}
use Rattle.drm_engine.specs.Filling.{one}
use Rattle.drm_words.specs.Subjects.{entity_of}
use Rattle.drm_words.proofs.Refusals.{stopped, stopped_otherwise, stopped_since}
use Rattle.drm_words.proofs.refused.place_stopped.Goals as goal

pub returns-in-Arm : goal.returns-in-Arm
returns-in-Arm c = rw (c.in-Arm.is, stopped_since) (rw c.from.ensures at c.place_one.ensures)

pub returns-in_default : goal.returns-in_default
returns-in_default c =
    (rw c.entity_in-entity.ensures at c.place_one-in_default.ensures)
    ∙ ap (λ (t : List ℕ). c.args.piece.now ++ t) (ap (λ (t : List ℕ). filled t (one (entity_of c.args.subject.now))) (sym stopped) ∙ sym (stopped_otherwise c.args.subject.now c.in_default.not-Arm))
