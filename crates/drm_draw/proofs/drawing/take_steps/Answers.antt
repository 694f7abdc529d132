use Rattle.std.proofs.Common.{◌≡◌, ◌∷◌, ◌++◌, ◌∙◌, ℕ, [], ap, List, Option, map, subst, sym}
use Rattle.drm_core.specs.Run.{AllNamesExist}
use Rattle.drm_core.specs.declared.event.Event.{Event}
use Rattle.drm_picture.specs.declared.command.Request.{Request}
use Rattle.drm_picture.specs.declared.command.Step.{Step}
use Rattle.drm_draw.specs.Drawing.{asked, asked_by, command_of}
use Rattle.drm_engine.proofs.Pieces.{GoesOn, run_ends, turn}
use Rattle.drm_draw.proofs.Steps.{answer_more, command_more, commands_end}
use Rattle.drm_draw.proofs.drawing.take_steps.Goals as goal

pub loop-event-preserved : goal.loop-event-preserved
loop-event-preserved c =
    let left = c.next.new.self in
    let before = c.loop-event.core in
    let after = c.apply-answer.new.self in
    let so = c.loop-event.invariant.so_far in
    let step : Step = record { command = c.command-command.result; request = c.in_ok-request.request; answer = c.apply-answer.result } in
    let split : c.loop-event.rest ≡ c.in-Some.event ∷ left = c.in-Some.ensures.some in
    let named : AllNamesExist before.device.spec (c.in-Some.event ∷ left) = subst (AllNamesExist before.device.spec) split c.loop-event.invariant.names in
    let goes_on : GoesOn c.args.core.now c.args.events so.0 before (c.in-Some.event ∷ left) = subst (GoesOn c.args.core.now c.args.events so.0 before) split so.1 in
    let asks : asked step ≡ asked_by c.in-Some.event =
    ap (λ (d : Event ℕ). (d, step.request)) c.command-command.ensures ∙ ap (λ (r : Option Request). (command_of c.in-Some.event, r)) c.in_ok-request.ensures in
    let kept : c.push.new.self.items ≡ c.loop-event.steps.items ++ step ∷ [] = c.in_ok-push.ensures.items in
    record {
      names = subst (λ spec. AllNamesExist spec left) (sym c.apply-answer.ensures.grows.spec) named.1;
      so_far = (
        so.0 ++ c.apply-answer.result ∷ [],
        turn c.args.core.now before after c.args.events left so.0 c.in-Some.event c.apply-answer.result c.apply-answer.ensures.step goes_on,
        ap (λ (ss : List Step). map (λ step. step.answer) ss) kept ∙ answer_more so.0 c.loop-event.steps.items step so.2,
      );
      commands = rw kept (command_more c.args.events c.loop-event.rest left c.in-Some.event c.loop-event.steps.items step split asks c.loop-event.invariant.commands);
    }

pub returns : goal.returns
returns c =
    let so = c.loop-event.invariant.so_far in (
      so.0,
      run_ends c.args.core.now c.loop-event.core c.args.events c.loop-event.rest so.0 c.in_default.ensures.none so.1,
      (commands_end c.args.events c.loop-event.rest c.loop-event.steps.items c.in_default.ensures.none c.loop-event.invariant.commands, so.2),
    )
