use Rattle.std.proofs.Common.{◌∙◌, refl, sym, inl, inr}
use Rattle.drm_expect.proofs.lines.add_line.Goals as goal

pub returns-then-is_for_readers : goal.returns-then-is_for_readers
returns-then-is_for_readers c = inl (sym c.is_for_readers.ensures ∙ c.if-is_for_readers.true, refl)

pub returns : goal.returns
returns c = inr (sym c.is_for_readers.ensures ∙ c.if-is_for_readers.false, (c.in_ok-line.line, c.in_ok-line.ensures, c.in_ok-push.ensures.items))
