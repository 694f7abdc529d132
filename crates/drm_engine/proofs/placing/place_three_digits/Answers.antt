use Rattle.std.proofs.Common.{◌≡◌, ◌∙◌, ◌∷◌, ◌++◌, [], List, ℕ, ap, sym}
use Rattle.std.specs.Fmt.{decimal}
use Rattle.drm_engine.proofs.Digits.{three_digits}
use Rattle.drm_engine.proofs.placing.place_three_digits.Goals as goal

pub returns-clause-text : goal.returns-clause-text
returns-clause-text c =
    let number = c.args.number in
    let is : c.digit.result ∷ c.digit-2.result ∷ c.digit-3.result ∷ [] ≡ decimal number =
    rw (c.digit.ensures, c.digit-2.ensures, c.digit-3.ensures) (sym (three_digits number c.requires.least c.requires.most)) in
    c.put_all.ensures ∙ ap (λ (t : List ℕ). c.args.piece.now ++ t) is
