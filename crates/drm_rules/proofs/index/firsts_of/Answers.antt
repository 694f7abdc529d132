use Rattle.std.proofs.Common.{subst, take}
use Rattle.std.proofs.lemmas.List.{take_all}
use Rattle.drm_rules.specs.Tables.{AreFirsts}
use Rattle.drm_rules.proofs.Judged.{seen_on}
use Rattle.drm_rules.proofs.index.firsts_of.Goals as goal

pub loop-event-preserved : goal.loop-event-preserved
loop-event-preserved c =
    let i = c.loop-event.event-index in
    subst (AreFirsts c.note.new.firsts) (seen_on c.args.log.now i _ c.loop-event-test.true)
    (c.in_ok-note.ensures (take i c.args.log.now) c.loop-event.invariant)

pub returns : goal.returns
returns c = subst (AreFirsts c.loop-event.firsts) (take_all c.loop-event.event-index c.args.log.now c.loop-event-test.false) c.loop-event.invariant
