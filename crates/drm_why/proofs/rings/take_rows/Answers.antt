use Rattle.std.proofs.Common.{◌≡◌, ◌∷◌, ◌++◌, ◌∙◌, [], ap, List, ℕ, subst, sym}
use Rattle.drm_core.specs.declared.event.Event.{Event}
use Rattle.drm_core.specs.Run.{AllNamesExist}
use Rattle.drm_reason.specs.Retired.{AreRetired}
use Rattle.drm_state.specs.State.{DeviceState}
use Rattle.drm_why.specs.Rings.{IsRow}
use Rattle.drm_why.specs.Seeing.{clock_behind, command_of}
use Rattle.drm_why.specs.declared.rings.Row.{Row}
use Rattle.drm_why.proofs.Rows.{RowsOn, rows_end, rows_turn}
use Rattle.drm_why.proofs.rings.take_rows.Goals as goal

pub advance-requires : goal.advance-requires
advance-requires c =
    subst (λ (d : DeviceState). AreRetired d c.loop-event.retired) (sym c.device-device.ensures.state)
    (c.retired_stay.ensures c.loop-event.core.device c.apply.new.self.device c.loop-event.retired c.apply.ensures.grows c.loop-event.invariant.retired)

pub loop-event-preserved : goal.loop-event-preserved
loop-event-preserved c =
    let left = c.next.new.self in
    let now = c.loop-event.core in
    let next = c.apply.new.self in
    let event = c.in-Some.event in
    let row = c.in_ok-row.row in
    let split : c.loop-event.rest ≡ event ∷ left = c.in-Some.ensures.some in
    let named : AllNamesExist now.device.spec (event ∷ left) = subst (AllNamesExist now.device.spec) split c.loop-event.invariant.names in
    let rows_on : RowsOn c.args.core.now c.args.events c.loop-event.rows.items c.loop-event.clock now (event ∷ left) =
    subst (RowsOn c.args.core.now c.args.events c.loop-event.rows.items c.loop-event.clock now) split c.loop-event.invariant.so_far in
    let told : c.clock_after-clock.result ≡ clock_behind c.loop-event.clock (command_of event) =
    c.clock_after-clock.ensures ∙ ap (λ (e : Event ℕ). clock_behind c.loop-event.clock e) c.command.ensures in
    let is : IsRow next.device (clock_behind c.loop-event.clock (command_of event)) row =
    subst (λ (clock : ℕ). IsRow next.device clock row) told (subst (λ (d : DeviceState). IsRow d c.clock_after-clock.result row) c.device-device.ensures.state c.in_ok-row.ensures) in
    let kept : c.push.new.self.items ≡ c.loop-event.rows.items ++ row ∷ [] = c.in_ok-push.ensures.items in
    record {
      names = subst (λ spec. AllNamesExist spec left) (sym c.apply.ensures.grows.spec) named.1;
      lawful = c.apply.ensures.lawful;
      retired = subst (λ (d : DeviceState). AreRetired d c.advance.new.self) c.device-device.ensures.state c.advance.ensures;
      so_far = subst (λ (clock : ℕ). RowsOn c.args.core.now c.args.events c.push.new.self.items clock next left) (sym told)
          (subst (λ (rows : List Row). RowsOn c.args.core.now c.args.events rows (clock_behind c.loop-event.clock (command_of event)) next left) (sym kept)
          (rows_turn c.args.core.now now next c.args.events left c.loop-event.rows.items c.loop-event.clock event c.apply.result row c.loop-event.invariant.lawful
          c.apply.ensures.step c.apply.ensures.grows is rows_on));
    }

pub returns : goal.returns
returns c =
    rows_end c.args.core.now c.loop-event.core c.args.events c.loop-event.rest c.loop-event.rows.items c.loop-event.clock c.loop-event.invariant.lawful
    c.in_default.ensures.none c.loop-event.invariant.so_far
