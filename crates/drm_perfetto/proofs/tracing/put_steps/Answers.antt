use Rattle.std.proofs.Common.{◌≡◌, ◌∷◌, ◌++◌, ℕ, [], ap, subst, sym}
use Rattle.drm_core.specs.Run.{AllNamesExist}
use Rattle.drm_perfetto.specs.Steps.{step_entries}
use Rattle.drm_perfetto.specs.Traces.{later}
use Rattle.drm_perfetto.proofs.Kept.{rows_kept}
use Rattle.drm_perfetto.proofs.Known.{known_stays}
use Rattle.drm_perfetto.proofs.Pens.{entries_more, entries_none, entries_same}
use Rattle.drm_perfetto.proofs.RowFacts.{have_room}
use Rattle.drm_perfetto.proofs.Traced.{TracesOn, added, traced_end, traced_none, traced_turn}
use Rattle.drm_perfetto.proofs.tracing.put_steps.Goals as goal

pub put_step-requires : goal.put_step-requires
put_step-requires g c = record {
  room = have_room c.loop-event.core c.apply-answer.new.self c.loop-event.rows (sym c.apply-answer.ensures.grows.spec) c.loop-event.invariant.rows;
  known = known_stays c.knowledge_stays.ensures c.retired_stay.ensures c.loop-event.core.device c.apply-answer.new.self.device c.loop-event.rows.watches c.apply-answer.ensures.grows c.loop-event.invariant.rows.known;
  kept =
      rows_kept c.loop-event.core c.apply-answer.new.self c.in-Some.event c.apply-answer.result c.names-named.result c.loop-event.rows c.names-named.ensures c.apply-answer.ensures.step
      (sym c.apply-answer.ensures.grows.spec) c.loop-event.invariant.rows;
}

pub loop-event-init : goal.loop-event-init
loop-event-init g c = record {
  names = subst (AllNamesExist c.args.core.now.device.spec) (sym c.into_left-rest.ensures) c.requires.names;
  rows = c.requires.rows;
  so_far = ([], [], traced_none c.args.by c.args.core.now c.args.events c.into_left-rest.result c.into_left-rest.ensures, entries_none c.args.pen.now c.args.writer.now);
}

pub loop-event-preserved : goal.loop-event-preserved
loop-event-preserved g c =
    let by = c.args.by in
    let start = c.args.core.now in
    let events = c.args.events in
    let left = c.next.new.self in
    let before = c.loop-event.core in
    let after = c.apply-answer.new.self in
    let event = c.in-Some.event in
    let answer = c.apply-answer.result in
    let command = c.loop-event.command in
    let last = c.loop-event.at in
    let so = c.loop-event.invariant.so_far in
    let split : c.loop-event.rest ≡ event ∷ left = c.in-Some.ensures.some in
    let named : AllNamesExist before.device.spec (event ∷ left) = subst (AllNamesExist before.device.spec) split c.loop-event.invariant.names in
    let turned = traced_turn by start before after events c.loop-event.rest left so.0 so.1 command last event answer split c.apply-answer.ensures.step so.2 in
    let given = so.0 ++ answer ∷ [] in
    let entries = so.1 ++ added by command last before event answer after in
    let put = c.put_step.ensures.entries before event (sym c.apply-answer.ensures.grows.spec) c.loop-event.invariant.rows c.names-named.ensures in
    record {
      names = subst (λ spec. AllNamesExist spec left) (sym c.apply-answer.ensures.grows.spec) named.1;
      rows = c.put_step.ensures.rows;
      so_far = (
        given,
        entries,
        subst (λ (n : ℕ). TracesOn by start events given entries n c.time-at.result after left) (sym c.saturating_add-command.ensures)
            (subst (λ (n : ℕ). TracesOn by start events given entries (later command) n after left) (sym c.time-at.ensures) turned),
        entries_more so.3 (entries_same (ap (λ (n : ℕ). step_entries (record { at = n; command = command }) before event answer after) c.time-at.ensures) put),
      );
    }

pub loop-event-preserved-in-Some : goal.loop-event-preserved-in-Some
loop-event-preserved-in-Some g c =
    let by = c.args.by in
    let start = c.args.core.now in
    let events = c.args.events in
    let left = c.next.new.self in
    let before = c.loop-event.core in
    let after = c.apply-answer.new.self in
    let event = c.in-Some.event in
    let answer = c.apply-answer.result in
    let command = c.loop-event.command in
    let last = c.loop-event.at in
    let so = c.loop-event.invariant.so_far in
    let split : c.loop-event.rest ≡ event ∷ left = c.in-Some.ensures.some in
    let named : AllNamesExist before.device.spec (event ∷ left) = subst (AllNamesExist before.device.spec) split c.loop-event.invariant.names in
    let turned = traced_turn by start before after events c.loop-event.rest left so.0 so.1 command last event answer split c.apply-answer.ensures.step so.2 in
    let given = so.0 ++ answer ∷ [] in
    let entries = so.1 ++ added by command last before event answer after in
    let put = c.put_step.ensures.entries before event (sym c.apply-answer.ensures.grows.spec) c.loop-event.invariant.rows c.names-named.ensures in
    record {
      names = subst (λ spec. AllNamesExist spec left) (sym c.apply-answer.ensures.grows.spec) named.1;
      rows = c.put_step.ensures.rows;
      so_far = (
        given,
        entries,
        subst (λ (n : ℕ). TracesOn by start events given entries n c.time-at.result after left) (sym c.saturating_add-command.ensures)
            (subst (λ (n : ℕ). TracesOn by start events given entries (later command) n after left) (sym c.time-at.ensures) turned),
        entries_more so.3 (entries_same (ap (λ (n : ℕ). step_entries (record { at = n; command = command }) before event answer after) c.time-at.ensures) put),
      );
    }

pub returns : goal.returns
returns g c =
    let so = c.loop-event.invariant.so_far in (
      so.0,
      so.1,
      traced_end c.args.by c.args.core.now c.loop-event.core c.args.events c.loop-event.rest so.0 so.1 c.loop-event.command c.loop-event.at c.in_default.ensures.none so.2,
      so.3,
    )
