use Rattle.std.proofs.Common.{rules}
use Rattle.drm_engine.proofs.engine.Engine.of_word.Goals as goal

pub returns-in-serial-clause-some : goal.returns-in-serial-clause-some
returns-in-serial-clause-some c = search rules

pub returns-in-check-clause-none : goal.returns-in-check-clause-none
returns-in-check-clause-none c = search rules
