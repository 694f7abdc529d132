-- A packet that a ring runs keeps the memory that of the machine that runs the jobs one after another.
use Rattle.std.proofs.Common.{◌≡◌, ℕ, ◌+◌, ◌<◌, Bool, true, false, not, cond, ◌==◌, length, Some, None, Option, refl, sym, ap, subst, ◌∙◌, inl, inr, ◌⊎◌, arith, slice_get}
use Rattle.std.specs.Option.{option_map_or}
use Rattle.std.specs.Prelude.{find}
use Rattle.std.specs.List.{list_any}
use Rattle.std.proofs.lemmas.Bool.{both_ways, or_left, or_from, not-true, cases_Bool, cases_lt}
use Rattle.drm_lists.proofs.Places.{to_map, from_map}
use Rattle.drm_packet.specs.declared.Packet.{Packet}
use Rattle.drm_packet.specs.Effect.{effect}
use Rattle.drm_job.specs.Conflicts.{conflicts}
use Rattle.drm_types.proofs.Firsts.{find_found}
use Rattle.drm_job.proofs.Within.{stays_within}
use Rattle.drm_serial.specs.Serial.{serial}
use Rattle.drm_serial.proofs.Commute.{packet_more, LaterAreApart, IsApartFrom, turn_apart, within_at}
use Rattle.drm_state.specs.declared.answer.Answer.{Answer}
use Rattle.drm_state.specs.declared.answer.Answer.TheVariants as answer
use Rattle.drm_state.specs.declared.journal.JobRecord.{JobRecord}
use Rattle.drm_state.specs.State.{DeviceState}
use Rattle.drm_state.specs.Journal.{turns, is_at, is_complete, is_over}
use Rattle.drm_fence.specs.Phases.{has_ended}
use Rattle.drm_state.specs.Ring.{pending_of}
use Rattle.drm_state.specs.Outcomes.{must_stall, ran_device, stepped_by, at_record, step_outcome}
use Rattle.drm_state.specs.Lawful.{IsLawfulDevice, IsSound, ComesInOrder}
use Rattle.drm_state.proofs.Records.{turn_of, at_test, turns_changed}

-- the memory is that of the machine
abbrev pub IsSerial : DeviceState → Type 0
IsSerial d = d.memory ≡ serial d.spec.buffers (turns d.journal)

-- a job that is not over has run beside no later job that conflicts with it
pub later_apart : (d : DeviceState) (f : ℕ) (r : JobRecord) (p : Packet) → IsLawfulDevice d → slice_get d.journal f ≡ Some r
    → is_over r ≡ false → slice_get r.job.packets r.ran ≡ Some p → LaterAreApart p (turns d.journal) f
later_apart d f r p law at is_open next k turn lt is =
    let y = from_map turn_of d.journal k turn is in
    let in_order : ComesInOrder f r k y.0 = law.follows f k r y.0 lt at y.1 in
    let sound : IsSound d.spec y.0 = law.records k y.0 y.1 in
    let within_r = within_at r.job r.ran p (stays_within d.spec r.job (law.records f r at).job) next in
    let none : (y.0.ran ≡ 0) ⊎ (conflicts r.job y.0.job ≡ false) =
    elim (cases_Bool (conflicts r.job y.0.job)) [
      | inr apart ↦ inr apart
      | inl meets ↦ elim (cases_lt 0 y.0.ran) [
        | inr zero_ran ↦ inl (omega (arith, zero_ran))
        | inl some_ran ↦
            absurd (both_ways (is_over r) is_open (in_order.ran (or_left (conflicts r.job y.0.job) (list_any (λ g. g == f) y.0.job.after) meets) some_ran))
      ]
    ] in
    subst (IsApartFrom p) (sym y.2) (turn_apart r.job p (turn_of y.0) within_r (stays_within d.spec y.0.job sound.job) none)

-- the job runs its next packet
pub ran_keeps : (d : DeviceState) (f : ℕ) (r : JobRecord) (p : Packet) → IsLawfulDevice d → slice_get d.journal f ≡ Some r
    → is_over r ≡ false → slice_get r.job.packets r.ran ≡ Some p → IsSerial (ran_device d f p)
ran_keeps d f r p law at is_open next =
    let same : effect p d.memory ≡ effect p (serial d.spec.buffers (turns d.journal)) = ap (effect p) law.memory in
    let moved = packet_more (turns d.journal) f (turn_of r) p d.spec.buffers (to_map turn_of d.journal f r at) next
    (later_apart d f r p law at is_open next) in
    same ∙ (moved ∙ ap (serial d.spec.buffers) (sym (turns_changed d.journal f r (λ r. record r { ran = r.ran + 1 }) at)))

-- whatever the ring's step answers, the memory stays that of the machine
pub step_keeps : (d : DeviceState) (ring : ℕ) → IsLawfulDevice d → ring < length d.spec.rings → IsSerial (step_outcome d ring).1
step_keeps d ring law here =
    let test : ℕ → Bool = λ f. is_at d.journal f (λ r. not (is_complete r)) in
    let packet : ℕ → JobRecord → Answer × DeviceState = λ number r. option_map_or (stepped_by d number) (slice_get r.job.packets r.ran) (answer.Ok, d) in
    elim (find test (pending_of d ring)) as (λ o. find test (pending_of d ring) ≡ o → IsSerial (at_record d packet (answer.Ok, d) o).1) [
      | None ↦ λ none. law.memory
      | Some f ↦ λ some.
          let found = find_found test (pending_of d ring) f some in
          let r = ((law.rings ring here).pending f).0 found.0 in
          let going : is_complete r.0 ≡ false = not-true (is_complete r.0) (sym (at_test d.journal f r.0 (λ r. not (is_complete r)) r.1) ∙ found.1) in
          let is_open : is_over r.0 ≡ false = or_from (is_complete r.0) (has_ended r.0.phase) going (ap has_ended r.2) in
          let at_one : (o : Option Packet) → slice_get r.0.job.packets r.0.ran ≡ o → IsSerial (option_map_or (stepped_by d f) o (answer.Ok, d)).1 =
          λ o. elim o as (λ o. slice_get r.0.job.packets r.0.ran ≡ o → IsSerial (option_map_or (stepped_by d f) o (answer.Ok, d)).1) [
            | None ↦ λ none. law.memory
            | Some p ↦ λ next.
                elim (is_at d.journal f (λ r. must_stall p r.karma.resets)) as (λ b. IsSerial (cond {A = Answer × DeviceState} b (answer.Stalled f, d) (answer.Ran f (option_map_or (λ r. r.ran) (slice_get d.journal f) 0), ran_device d f p)).1) [
                  | true ↦ law.memory
                  | false ↦ ran_keeps d f r.0 p law r.1 is_open next
                ]
          ] in
          subst (λ o. IsSerial (option_map_or (packet f) o (answer.Ok, d)).1) (sym r.1) (at_one (slice_get r.0.job.packets r.0.ran) refl)
    ] refl
