use Rattle.std.proofs.Common.{ℕ, arith, drop}
use Rattle.std.proofs.lemmas.Result.{err_from_is_err_and}
use Rattle.drm_trace.proofs.Cutting.{bare_left, line_fails, line_goes}
use Rattle.drm_trace.proofs.pieces.add_lines.Goals as goal

pub returns-then-end-rest-clause-bare : goal.returns-then-end-rest-clause-bare
returns-then-end-rest-clause-bare c = bare_left _ _ c.end_of_line-end.result c.split_at.ensures.back c.end_of_line-end.ensures c.if-end-rest.true

pub returns-in_err-add_line-clause-lines : goal.returns-in_err-add_line-clause-lines
returns-in_err-add_line-clause-lines c =
    let p = err_from_is_err_and c.from_residual.result c.from_residual.ensures.1 in
    rw (p.1, p.2)
    (line_fails c.args.log.now c.lines.log c.add_line.new.log c.args.text.now _ _ c.lines.at c.end_of_line-end.result (λ (at : ℕ). drop at c.args.text.now) _ c.lines.invariant.goes c.split_at.ensures.back
    c.end_of_line-end.ensures c.if-end-rest.false c.split_at-in-lines.ensures.front c.in_err-add_line.ensures)

pub lines-preserved : goal.lines-preserved
lines-preserved c = record {
  within = omega (arith, c.split_at.ensures.back_len, c.if-end-rest.false);
  goes =
      line_goes c.args.log.now c.lines.log c.add_line.new.log c.args.text.now _ _ c.lines.at c.end_of_line-end.result c.lines.invariant.goes c.split_at.ensures.back
      c.end_of_line-end.ensures c.if-end-rest.false c.split_at-in-lines.ensures.front c.in_ok-add_line.ensures;
}
