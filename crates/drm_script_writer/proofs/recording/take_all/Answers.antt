use Rattle.std.proofs.Common.{◌≡◌, ◌∷◌, ◌++◌, [], subst, sym}
use Rattle.drm_core.specs.Run.{AllNamesExist}
use Rattle.drm_engine.proofs.Pieces.{GoesOn, run_ends, turn}
use Rattle.drm_script_writer.proofs.recording.take_all.Goals as goal

pub loop-event-preserved : goal.loop-event-preserved
loop-event-preserved c =
    let left = c.next.new.self in
    let before = c.loop-event.core in
    let after = c.apply.new.self in
    let so = c.loop-event.invariant.so_far in
    let split : c.loop-event.rest ≡ c.in-Some.event ∷ left = c.in-Some.ensures.some in
    let named : AllNamesExist before.device.spec (c.in-Some.event ∷ left) = subst (AllNamesExist before.device.spec) split c.loop-event.invariant.names in
    let goes_on : GoesOn c.args.core.now c.args.events so.0 before (c.in-Some.event ∷ left) = subst (GoesOn c.args.core.now c.args.events so.0 before) split so.1 in
    record {
      names = subst (λ spec. AllNamesExist spec left) (sym c.apply.ensures.grows.spec) named.1;
      so_far = (
        so.0 ++ c.apply.result ∷ [],
        turn c.args.core.now before after c.args.events left so.0 c.in-Some.event c.apply.result c.apply.ensures.step goes_on,
      );
    }

pub loop-event-preserved-in-Some : goal.loop-event-preserved-in-Some
loop-event-preserved-in-Some c =
    let left = c.next.new.self in
    let before = c.loop-event.core in
    let after = c.apply.new.self in
    let so = c.loop-event.invariant.so_far in
    let split : c.loop-event.rest ≡ c.in-Some.event ∷ left = c.in-Some.ensures.some in
    let named : AllNamesExist before.device.spec (c.in-Some.event ∷ left) = subst (AllNamesExist before.device.spec) split c.loop-event.invariant.names in
    let goes_on : GoesOn c.args.core.now c.args.events so.0 before (c.in-Some.event ∷ left) = subst (GoesOn c.args.core.now c.args.events so.0 before) split so.1 in
    record {
      names = subst (λ spec. AllNamesExist spec left) (sym c.apply.ensures.grows.spec) named.1;
      so_far = (
        so.0 ++ c.apply.result ∷ [],
        turn c.args.core.now before after c.args.events left so.0 c.in-Some.event c.apply.result c.apply.ensures.step goes_on,
      );
    }

pub returns : goal.returns
returns c =
    let so = c.loop-event.invariant.so_far in
    (so.0, run_ends c.args.core.now c.loop-event.core c.args.events c.loop-event.rest so.0 c.in_default.ensures.none so.1, tt)
