use Rattle.std.proofs.Common.{◌≡◌, ◌<◌, ◌++◌, List, ℕ, Err, length, drop, ap, sym, subst, ◌∙◌}
use Rattle.drm_text.specs.declared.fault.Fault.{Fault}
use Rattle.drm_trace.specs.Pieces.{with_text}
use Rattle.drm_trace.proofs.Cutting.{long_faulty}
use Rattle.drm_trace.proofs.pieces.add_piece.Goals as goal

pub returns-then-rest-gt-MAX_TEXT-clause-lines : goal.returns-then-rest-gt-MAX_TEXT-clause-lines
returns-then-rest-gt-MAX_TEXT-clause-lines c = λ more.
    let text = c.as_slice.result.now in
    let is : text ≡ c.args.before.now.items ++ c.args.piece.now = c.as_slice.ensures.value ∙ c.in_ok-extend_from_slice.ensures.items in
    let rest = drop c.in_ok-at.at text in
    let cut : c.split_at.result.1.now ≡ rest = c.split_at.ensures.back ∙ ap (drop c.in_ok-at.at) (c.as_slice-2.ensures.value ∙ sym c.as_slice.ensures.value) in
    let long : 1048576 < length rest = subst (λ (xs : List ℕ). 1048576 < length xs) cut c.if-rest-gt-MAX_TEXT.true in
    ap (λ (xs : List ℕ). with_text c.args.log.now (xs ++ more)) (sym is) ∙ c.in_ok-at.ensures.lines more
    ∙ long_faulty c.add_lines.new.log rest more c.in_ok-at.ensures.bare long ∙ ap (λ (f : Fault). Err f) (sym c.too_long_fault.ensures)
