use Rattle.drm_text.proofs.Cuts.{no_part_left}
use Rattle.drm_text.proofs.parts.Parts.is_empty.Goals as goal

pub returns : goal.returns
returns g c = rw (← c.self.view_is) (no_part_left g.row.SEPARATOR c.self.inside.bytes.now c.self.inside.at)
