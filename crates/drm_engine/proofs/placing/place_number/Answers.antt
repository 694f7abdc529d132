use Rattle.std.proofs.Common.{◌∙◌, ◌∷◌, ◌++◌, [], List, ℕ, ap, sym}
use Rattle.drm_answer.proofs.ShortNumbers.{one_digit}
use Rattle.drm_engine.proofs.placing.place_number.Goals as goal

pub returns-then-number-lt10-clause-text : goal.returns-then-number-lt10-clause-text
returns-then-number-lt10-clause-text c =
    c.put_all.ensures ∙ ap (λ (t : List ℕ). c.args.piece.now ++ t) (ap (λ (d : ℕ). d ∷ []) c.digit.ensures ∙ sym (one_digit c.args.number c.if-number-lt10.true))
