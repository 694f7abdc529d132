use Rattle.std.proofs.Common.{rules}
use Rattle.drm_text.proofs.parts.Parts.at.Goals as goal

pub returns-clause-value : goal.returns-clause-value
returns-clause-value g c = search rules
