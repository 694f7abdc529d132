use Rattle.std.proofs.Common.{◌≡◌, ◌∷◌, ◌∙◌, ℕ, ap, List, subst, sym}
use Rattle.drm_core.specs.declared.event.Event.{Event}
use Rattle.drm_core.specs.Run.{AllNamesExist}
use Rattle.drm_reason.specs.declared.reason.Reason.{Reason}
use Rattle.drm_reason.specs.Retired.{AreRetired}
use Rattle.drm_reason.specs.Watching.{Knows}
use Rattle.drm_state.specs.State.{DeviceState}
use Rattle.drm_why.specs.Seeing.{AddsLook, IsSeen, command_of, reason_behind}
use Rattle.drm_why.specs.declared.seeing.Seen.{Seen}
use Rattle.drm_why.proofs.Sights.{SeesOn, look_seen, reason_pushed, sees_end, sees_turn}
use Rattle.drm_why.proofs.seeing.take_seen.Goals as goal

pub advance-requires : goal.advance-requires
advance-requires c =
    subst (λ (d : DeviceState). AreRetired d c.loop-event.retired) (sym c.device-device.ensures.state)
    (c.retired_stay.ensures c.loop-event.core.device c.apply.new.self.device c.loop-event.retired c.apply.ensures.grows c.loop-event.invariant.retired)

pub add_seen-requires-clause-known : goal.add_seen-requires-clause-known
add_seen-requires-clause-known c =
    subst (λ (d : DeviceState). Knows d c.loop-event.watch) (sym c.device-device.ensures.state)
    (c.knowledge_stays.ensures c.loop-event.core.device c.apply.new.self.device c.loop-event.watch c.apply.ensures.grows c.loop-event.invariant.known)

pub loop-event-preserved : goal.loop-event-preserved
loop-event-preserved c =
    let left = c.next.new.self in
    let now = c.loop-event.core in
    let next = c.apply.new.self in
    let event = c.in-Some.event in
    let seens = c.loop-event.seens.items in
    let before = reason_behind seens in
    let split : c.loop-event.rest ≡ event ∷ left = c.in-Some.ensures.some in
    let named : AllNamesExist now.device.spec (event ∷ left) = subst (AllNamesExist now.device.spec) split c.loop-event.invariant.names in
    let sees_on : SeesOn c.args.fence c.args.core.now c.args.events seens before now (event ∷ left) =
    subst (SeesOn c.args.fence c.args.core.now c.args.events seens before now) split c.loop-event.invariant.so_far in
    let added : AddsLook next.device c.args.fence (command_of event) seens c.add_seen.new.seens.items =
    subst (λ (command : Event ℕ). AddsLook next.device c.args.fence command seens c.add_seen.new.seens.items) c.command-command.ensures
    (subst (λ (fence : ℕ). AddsLook next.device fence c.command-command.result seens c.add_seen.new.seens.items) c.loop-event.invariant.fence
    (subst (λ (d : DeviceState). AddsLook d c.loop-event.watch.fence c.command-command.result seens c.add_seen.new.seens.items) c.device-device.ensures.state
    c.in_ok-add_seen.ensures.seen)) in
    let is : IsSeen c.args.fence before event next added.0 = look_seen next c.args.fence before event added.0 added.1 in
    let turned = sees_turn c.args.fence c.args.core.now now next c.args.events left seens before event c.apply.result added.0
    c.loop-event.invariant.lawful c.apply.ensures.step c.apply.ensures.grows is sees_on in
    record {
      names = subst (λ spec. AllNamesExist spec left) (sym c.apply.ensures.grows.spec) named.1;
      lawful = c.apply.ensures.lawful;
      so_far = subst (λ (held : Reason). SeesOn c.args.fence c.args.core.now c.args.events c.add_seen.new.seens.items held next left)
          (sym (ap reason_behind added.2 ∙ reason_pushed seens added.0))
          (subst (λ (given : List Seen). SeesOn c.args.fence c.args.core.now c.args.events given added.0.reason next left) (sym added.2) turned);
      retired = subst (λ (d : DeviceState). AreRetired d c.advance.new.self) c.device-device.ensures.state c.advance.ensures;
      known = subst (λ (d : DeviceState). Knows d c.add_seen.new.watch) c.device-device.ensures.state c.in_ok-add_seen.ensures.known;
      fence = c.in_ok-add_seen.ensures.fence ∙ c.loop-event.invariant.fence;
    }

pub returns : goal.returns
returns c =
    sees_end c.args.fence c.args.core.now c.loop-event.core c.args.events c.loop-event.rest c.loop-event.seens.items (reason_behind c.loop-event.seens.items)
    c.loop-event.invariant.lawful c.in_default.ensures.none c.loop-event.invariant.so_far
