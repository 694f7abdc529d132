use Rattle.std.proofs.Common.{◌≡◌, ◌∷◌, ◌++◌, List, [], refl, subst, sym}
use Rattle.drm_state.specs.declared.answer.Answer.{Answer}
use Rattle.drm_core.specs.Run.{AllNamesExist}
use Rattle.drm_engine.proofs.Pieces.{GoesOn, run_ends, turn}
use Rattle.drm_expect.proofs.testing.take_answers.Goals as goal

pub loop-event-preserved : goal.loop-event-preserved
loop-event-preserved c =
    let left = c.next.new.self in
    let before = c.loop-event.core in
    let after = c.apply-answer.new.self in
    let split : c.loop-event.rest ≡ c.in-Some.event ∷ left = c.in-Some.ensures.some in
    let named : AllNamesExist before.device.spec (c.in-Some.event ∷ left) = subst (AllNamesExist before.device.spec) split c.loop-event.invariant.names in
    let goes_on : GoesOn c.args.core.now c.args.events c.loop-event.answers.items before (c.in-Some.event ∷ left) =
    subst (GoesOn c.args.core.now c.args.events c.loop-event.answers.items before) split c.loop-event.invariant.so_far in
    let kept : c.push.new.self.items ≡ c.loop-event.answers.items ++ c.apply-answer.result ∷ [] = c.in_ok-push.ensures.items in
    record {
      names = subst (λ spec. AllNamesExist spec left) (sym c.apply-answer.ensures.grows.spec) named.1;
      so_far = subst (λ (given : List Answer). GoesOn c.args.core.now c.args.events given after left) (sym kept)
          (turn c.args.core.now before after c.args.events left c.loop-event.answers.items c.in-Some.event c.apply-answer.result c.apply-answer.ensures.step goes_on);
    }

pub returns : goal.returns
returns c =
    (c.loop-event.answers.items, run_ends c.args.core.now c.loop-event.core c.args.events c.loop-event.rest c.loop-event.answers.items c.in_default.ensures.none c.loop-event.invariant.so_far, refl)
