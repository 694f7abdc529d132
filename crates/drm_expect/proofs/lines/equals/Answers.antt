use Rattle.std.proofs.Common.{◌∙◌, sym, arith}
use Rattle.drm_expect.proofs.Cutting.{no_equals, no_equals_more}
use Rattle.drm_expect.proofs.lines.equals.Goals as goal

pub loop-place-preserved : goal.loop-place-preserved
loop-place-preserved c =
    no_equals_more c.args.line.now c.loop-place.place c.loop-place.invariant (sym c.is_equals.ensures ∙ c.if-is_equals.false)

pub returns-then-is_equals-clause-found : goal.returns-then-is_equals-clause-found
returns-then-is_equals-clause-found c = record { at = sym c.is_equals.ensures ∙ c.if-is_equals.true; before = c.loop-place.invariant }

pub returns-clause-found : goal.returns-clause-found
returns-clause-found c = no_equals c.args.line.now c.loop-place.place (omega (arith, c.loop-place-test.false)) c.loop-place.invariant
