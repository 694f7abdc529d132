use Rattle.std.proofs.Common.{rules}
use Rattle.drm_types.proofs.access.wanted.Goals as goal

pub returns-in-Read : goal.returns-in-Read
returns-in-Read c = search rules

pub returns-in-Write : goal.returns-in-Write
returns-in-Write c = search rules

pub returns-in-Hold : goal.returns-in-Hold
returns-in-Hold c = search rules

pub returns-in-Move : goal.returns-in-Move
returns-in-Move c = search rules
