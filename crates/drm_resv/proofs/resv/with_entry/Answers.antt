use Rattle.std.proofs.Common.{rules}
use Rattle.drm_resv.proofs.resv.with_entry.Goals as goal

pub returns-then-not-is_as_strong_as : goal.returns-then-not-is_as_strong_as
returns-then-not-is_as_strong_as c = search rules

pub returns-in-Some : goal.returns-in-Some
returns-in-Some c = search rules

pub returns-in-None : goal.returns-in-None
returns-in-None c = search rules
