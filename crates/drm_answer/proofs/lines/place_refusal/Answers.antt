use Rattle.std.proofs.Common.{rules}
use Rattle.drm_answer.proofs.lines.place_refusal.Goals as goal

pub returns-in-NotAllHeld-clause-text : goal.returns-in-NotAllHeld-clause-text
returns-in-NotAllHeld-clause-text c = search rules
