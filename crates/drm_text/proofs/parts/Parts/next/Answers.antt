use Rattle.std.proofs.Common.{◌≡◌, ap, sym, drop, take, arith}
use Rattle.std.proofs.lemmas.List.Sums.{prefix_len-le-length}
use Rattle.drm_text.proofs.Cuts.{parts_left}
use Rattle.drm_text.proofs.parts.Parts.next.Goals as goal

pub split_at-requires-2 : goal.split_at-requires-2
split_at-requires-2 g c = rw c.end_of-len.ensures (prefix_len-le-length _ c.split_at.result.1.now)

pub returns-clause-some : goal.returns-clause-some
returns-clause-some g c =
    let rest = c.split_at.ensures.back in
    let part : c.split_at-2.result.0.now ≡ take c.end_of-len.result (drop c.self.inside.at c.self.inside.bytes.now) = rw (← rest) c.split_at-2.ensures.front in
    let cut = parts_left g.row.SEPARATOR c.self.inside.bytes.now c.self.inside.at c.end_of-len.result c.split_at-2.result.0.now c.if-self.false (rw (← rest) c.end_of-len.ensures) part in
    let at : c.args.self.now.at ≡ c.self.inside.at = sym (ap (λ x. x.at) c.self.view_is) in
    (rw (← c.self.view_is) cut.0, omega arith, omega arith, omega arith)
