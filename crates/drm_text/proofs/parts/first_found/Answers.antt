use Rattle.std.proofs.Common.{rules}
use Rattle.drm_text.proofs.parts.first_found.Goals as goal

pub returns-else-found-eq0 : goal.returns-else-found-eq0
returns-else-found-eq0 c = search rules
