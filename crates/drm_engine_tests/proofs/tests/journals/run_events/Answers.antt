use Rattle.std.proofs.Common.{◌∷◌, sym, subst}
use Rattle.drm_core.specs.Run.{AllNamesExist}
use Rattle.drm_engine_tests.proofs.tests.journals.run_events.Goals as goal

pub loop-event-preserved : goal.loop-event-preserved
loop-event-preserved c =
    let named : AllNamesExist c.loop-event.core.device.spec (c.in-Some.event ∷ c.next.new.self) = subst (AllNamesExist c.loop-event.core.device.spec) c.in-Some.ensures.some c.loop-event.invariant in
    subst (λ spec. AllNamesExist spec c.next.new.self) (sym c.apply-answer.ensures.grows.spec) named.1
