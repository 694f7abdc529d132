use Rattle.std.proofs.Common.{take}
use Rattle.drm_rules.specs.Tables.{AreFirsts}
use Rattle.drm_rules.proofs.index.firsts_of.Given as goal

abbrev pub invariant-loop-event : goal.invariant-loop-event
invariant-loop-event l = AreFirsts l.firsts (take l.event-index l.log)
