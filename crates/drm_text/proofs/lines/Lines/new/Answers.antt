use Rattle.std.proofs.Common.{◌≡◌, ◌∷◌, true, rules, ap, refl, arith}
use Rattle.drm_text.specs.Cut.{Cut}
use Rattle.drm_text.specs.Lines.{AreText}
use Rattle.drm_text.proofs.Printed.{cut_lines_are_text}
use Rattle.drm_text.proofs.lines.Lines.new.Goals as goal
use Rattle.drm_text.proofs.lines.Lines.new.Goals.{in-Some, in-None}

pub returns : goal.returns
returns c = search rules

pub invariant_of-result : goal.invariant_of-result
invariant_of-result c =
    elim c.match-next.branch [
      | in-Some w ↦
          let cut = w.in-Some.ensures.some in
          let all : (c.is_text_of_lines-known_text.result ≡ true) → AreText (w.in-Some.first.now ∷ c.next.new.self.parts) = λ known. cut_lines_are_text c.args.text.now c.new-rest.result w.in-Some.first.now c.next.new.self.parts c.new-rest.ensures cut.0 (rw (← c.is_text_of_lines-known_text.ensures) known) in
          rw w.bytes-is (omega arith, cut.3, cut.2, all)
      | in-None w ↦
          let cut = w.in-None.ensures.none in
          let at : c.new-rest.result.at ≡ 0 = ap (λ (cut : Cut). cut.at) c.new-rest.ensures in
          rw (w.bytes-is, cut.1, cut.0) (omega arith, omega (arith, at), omega arith, λ known. (refl, tt))
    ]
