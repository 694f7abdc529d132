-- A step beside packets that are out: they stay out, since it takes none of their buffers.
use Rattle.std.proofs.Common.{◌≡◌, ℕ, ◌<◌, true, false, cond, List, [], length, Some, None, Option, refl, sym, ap, subst, ◌∙◌, slice_get}
use Rattle.std.specs.Option.{option_map_or}
use Rattle.std.specs.Prelude.{Contains}
use Rattle.drm_packet.specs.declared.Packet.{Packet}
use Rattle.drm_packet.specs.Touches.{touches}
use Rattle.drm_state.specs.declared.answer.Answer.{Answer}
use Rattle.drm_state.specs.declared.answer.Answer.TheVariants as answer
use Rattle.drm_state.specs.declared.journal.JobRecord.{JobRecord}
use Rattle.drm_state.specs.Journal.{is_at}
use Rattle.drm_state.specs.Outcomes.{must_stall, at_record, stepped_by, ran_device, step_outcome}
use Rattle.drm_state.specs.Ring.{current_of}
use Rattle.drm_state.specs.State.{DeviceState}
use Rattle.drm_sched.specs.Marks.{Mark, MarkedDevice, mark_of, packet_at, out_by, ring_out, buffer_out, is_step_blocked, IsOut, IsSteadyMarked}
use Rattle.drm_state.proofs.Records.{changed_is}
use Rattle.drm_state.proofs.RanLawful.{current_is, one_more_ran}
use Rattle.drm_state.proofs.DeviceSteps.{at_record_is, step_kept}
use Rattle.drm_table.proofs.TableFacts.{neither}
use Rattle.drm_sched.proofs.Marks.{ran_leaves_out}
use Rattle.drm_sched.proofs.MarksKept.{is_out_at, next_is_free, touches_out, same_packet}
use Rattle.drm_sched.proofs.MarksOther.{Stays, LeavesMarks, ring_is_there, apart_from}

-- each mark stays over a step that no packet blocks
step_stays : (d : MarkedDevice) (ring k : ℕ) (m : Mark) → IsSteadyMarked d → ring < length d.state.spec.rings → is_step_blocked d ring ≡ false
    → mark_of d k ≡ Some m → Stays d.state (step_outcome d.state ring).1 k m
step_stays d ring k m steady there free is = by_current (current_of device ring) refl
  where
    device : DeviceState
    device = d.state

    its : IsOut device k m
    its = steady.out k m is

    itself : Stays device device k m
    itself = (its, refl)

    ways : (ring_out d ring ≡ false) × (buffer_out d ring ≡ false)
    ways = neither (ring_out d ring) (buffer_out d ring) free

    by_packet : (f : ℕ) (r : JobRecord) → slice_get device.journal f ≡ Some r → current_of device ring ≡ Some f → (o : Option Packet) → slice_get r.job.packets r.ran ≡ o
        → Stays device (option_map_or (stepped_by device f) o (answer.Ok, device)).1 k m
    by_packet f r at now None none = itself
    by_packet f r at now (Some p) next =
        let c = current_is device ring f steady.state.lawful there now in
        let same : c.0 ≡ r = cc (c.1.at, at) in
        let ran = ran_leaves_out device k ring f c.0 p m its steady.state (ring_is_there d k m steady is) c.1 (apart_from d ring k m ways.0 is)
        (λ b touched also. next_is_free d ring f b r p ways.1 now at next also
        (is_out_at d k b m is (subst (λ (bs : List ℕ). Contains bs b) (sym (touches_out device k m its)) touched))) in
        let kept : out_by (ran_device device f p).journal (Some m) ≡ out_by device.journal (Some m) =
        ap (λ (js : List JobRecord). option_map_or touches (packet_at js m.fence m.packet) []) (changed_is device.journal f r one_more_ran at)
        ∙ ap (λ o. option_map_or touches o []) (same_packet device.journal f m.fence m.packet r at) in
        elim (is_at device.journal f (λ r. must_stall p r.karma.resets)) as (λ b. Stays device
        (cond {A = Answer × DeviceState} b (answer.Stalled f, device) (answer.Ran f (option_map_or (λ r. r.ran) (slice_get device.journal f) 0), ran_device device f p)).1 k m) [
          | true ↦ itself
          | false ↦ (ran, kept)
        ]

    by_current : (o : Option ℕ) → current_of device ring ≡ o
        → Stays device (at_record {A = Answer × DeviceState} device (λ number r. option_map_or (stepped_by device number) (slice_get r.job.packets r.ran) (answer.Ok, device)) (answer.Ok, device) o).1 k m
    by_current None now = itself
    by_current (Some f) now =
        let c = current_is device ring f steady.state.lawful there now in
        at_record_is (λ q. Stays device q.1 k m) device (λ number r. option_map_or (stepped_by device number) (slice_get r.job.packets r.ran) (answer.Ok, device)) (answer.Ok, device) f c.0 c.1.at
        (by_packet f c.0 c.1.at now (slice_get c.0.job.packets c.0.ran) refl)

pub step_leaves_marks : (d : MarkedDevice) (ring : ℕ) → IsSteadyMarked d → ring < length d.state.spec.rings → is_step_blocked d ring ≡ false → LeavesMarks d (step_outcome d.state ring).1
step_leaves_marks d ring steady there free = record {
  spec = (step_kept d.state ring steady.state there).grows.spec;
  stays = λ k m is. step_stays d ring k m steady there free is;
}
