use Rattle.drm_text.proofs.PartsLeft.{left_of_cut}
use Rattle.drm_text.proofs.parts.Parts.left.Goals as goal

pub returns : goal.returns
returns g c = λ separator. rw (← c.self.view_is, c.saturating_sub.ensures) (left_of_cut g.row.SEPARATOR separator c.self.inside.bytes.now c.self.inside.at)
