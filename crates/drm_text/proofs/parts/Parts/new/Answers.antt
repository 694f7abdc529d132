use Rattle.std.proofs.Common.{rules}
use Rattle.drm_text.proofs.parts.Parts.new.Goals as goal

pub returns : goal.returns
returns g c = search rules
