use Rattle.drm_text.proofs.Printed.{no_fault}
use Rattle.drm_text.proofs.lines.Line.check.Goals as goal

pub returns-then-self : goal.returns-then-self
returns-then-self c = rw (← c.self.view_is) (no_fault c.self.inside.number 1 c.self.inside.bytes.now (c.self.invariant.1 c.if-self.true))
