use Rattle.std.proofs.Common.{◌≡◌, ap, sym, refl, ◌∙◌, drop, take, arith}
use Rattle.std.proofs.lemmas.Bool.{eqb-true}
use Rattle.drm_text.proofs.Cuts.{parts_left}
use Rattle.drm_text.proofs.CutNumbers.{one_digit}
use Rattle.drm_text.proofs.parts.Parts.next_number.Goals as goal

pub returns-clause-some : goal.returns-clause-some
returns-clause-some g c =
    let it = c.self.inside in
    let part = c.split_at-2.result.0.now in
    let front : part ≡ take 1 (drop it.at it.bytes.now) = rw (← c.split_at.ensures.back) c.split_at-2.ensures.front in
    let inside = c.if-not-is_one_byte.ensures.inside refl in
    let cut = parts_left g.row.SEPARATOR it.bytes.now it.at 1 part (omega (arith, inside)) (sym (eqb-true _ 1 (sym c.if-not-is_one_byte.ensures.one))) front in
    let at : c.args.self.now.at ≡ it.at = sym (ap (λ x. x.at) c.self.view_is) in
    (rw (← c.self.view_is) cut.0, omega arith, omega arith, omega arith, c.digit_value.ensures.value ∙ one_digit c.args.most part cut.1)
