use Rattle.std.proofs.Common.{subst}
use Rattle.drm_journal.specs.Journal.{IsJournal}
use Rattle.drm_journal.proofs.journal.Journal.spec.Goals as goal

pub returns-clause-stands : goal.returns-clause-stands
returns-clause-stands c = subst IsJournal c.self.view_is c.self.invariant
