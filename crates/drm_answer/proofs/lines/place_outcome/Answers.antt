use Rattle.std.proofs.Common.{rules}
use Rattle.drm_answer.proofs.lines.place_outcome.Goals as goal

pub returns-in-Stopped-clause-text : goal.returns-in-Stopped-clause-text
returns-in-Stopped-clause-text c = search rules
