use Rattle.std.proofs.Common.{◌≡◌, ap, sym, drop, take, arith}
use Rattle.drm_text.proofs.Cuts.{parts_left}
use Rattle.drm_text.proofs.Digits.{numbers_are_small}
use Rattle.drm_text.proofs.parts.Parts.next_by_digits.Goals as goal

pub returns-clause-some : goal.returns-clause-some
returns-clause-some g c =
    let rest = c.split_at.ensures.back in
    let end = c.cut_digits-end.result.0 in
    let part : c.split_at-2.result.0.now ≡ take end (drop c.self.inside.at c.self.inside.bytes.now) = rw (← rest) c.split_at-2.ensures.front in
    let cut = parts_left g.row.SEPARATOR c.self.inside.bytes.now c.self.inside.at end c.split_at-2.result.0.now c.if-self.false (rw (← rest) c.cut_digits-end.ensures.end) part in
    let at : c.args.self.now.at ≡ c.self.inside.at = sym (ap (λ x. x.at) c.self.view_is) in
    (rw (← c.self.view_is) cut.0, omega arith, omega arith, omega arith, rw c.split_at-2.ensures.front c.cut_digits-end.ensures.number)

pub returns-clause-small : goal.returns-clause-small
returns-clause-small g c = rw c.cut_digits-end.ensures.number (numbers_are_small c.args.most (take c.cut_digits-end.result.0 c.split_at.result.1.now))
