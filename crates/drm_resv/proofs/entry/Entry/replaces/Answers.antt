use Rattle.std.proofs.Common.{rules}
use Rattle.drm_resv.proofs.entry.Entry.replaces.Goals as goal

pub returns-then-is_as_strong_as : goal.returns-then-is_as_strong_as
returns-then-is_as_strong_as c = search rules

pub returns-else-is_as_strong_as : goal.returns-else-is_as_strong_as
returns-else-is_as_strong_as c = search rules
