use Rattle.std.proofs.Common.{◌≡◌, ◌∙◌, ap, sym, subst, refl, Err, None, Ok, Some}
use Rattle.ww_lock.specs.Seats.{sees}
use Rattle.drm_state.specs.Grows.{Grows}
use Rattle.drm_state.specs.State.{DeviceState}
use Rattle.drm_state.specs.declared.answer.Answer.TheVariants as answer
use Rattle.drm_state.specs.declared.errors.StepError.TheVariants.{Idle}
use Rattle.drm_state.specs.declared.answer.Stepped.TheVariants.{Stalled}
use Rattle.drm_sched.specs.Begun.{HasBegun, MayComeBack, MayRun}
use Rattle.drm_sched.specs.declared.outside.Begun.TheVariants.{Work}
use Rattle.drm_state.specs.Errors.{refusal_of_step}
use Rattle.drm_sched.specs.Calls as device
use Rattle.drm_sched.specs.Marks.{IsBusy, MarkedDevice, Task, mark_of}
use Rattle.drm_state.specs.Refusals.{step_refusal}
use Rattle.drm_state.specs.Outcomes.{step_outcome}
use Rattle.drm_gpu.specs.Answers.{StepIs}
use Rattle.drm_gpu.specs.declared.running.OutPacket.{OutPacket}
use Rattle.drm_gpu.specs.Passes.{GrowsTo}
use Rattle.drm_gpu.specs.Running.{IsPacketOfItsJob, is_last_packet}
use Rattle.drm_gpu.proofs.Called.{calls_as, same_trans}
use Rattle.drm_gpu.proofs.Chains.{holds_trans, pass_on}
use Rattle.drm_gpu.proofs.Grown.{grows_itself}
use Rattle.drm_gpu.proofs.Packets.{none_out, not_out, only_idle, sent_of_job, waits_for}
use Rattle.drm_gpu.proofs.gpu.Gpu.start_packet.Goals as goal

pub leave_sent-requires-clause-free : goal.leave_sent-requires-clause-free
leave_sent-requires-clause-free g c =
    subst (λ (t : Task). mark_of c.of-found.result.value t.ring ≡ None) (sym c.task.ensures)
    (subst (λ d. mark_of d c.args.ring ≡ None) (sym c.of-found.ensures) (none_out c.enter_for-device.result c.args.ring c.enter_for-device.ensures.free))

pub leave_sent-requires-clause-busy : goal.leave_sent-requires-clause-busy
leave_sent-requires-clause-busy g c =
    let w = c.in-Ok-Work in
    let out : OutPacket = record { ring = c.args.ring; fence = w.fence; packet = w.packet; is_last = c.is_last.result; copy = w.copy; write = w.write; read = w.read } in
    subst (IsBusy c.begin_unblocked_step.new.self) (sym c.task.ensures)
    (waits_for c.enter_for-device.result c.begin_unblocked_step.new.self out
    (subst (λ b. HasBegun c.enter_for-device.result c.args.ring b c.begin_unblocked_step.new.self) w.field-0-is w.ensures.call.1)
    (subst (MayComeBack c.begin_unblocked_step.new.self c.args.ring) w.field-0-is w.ensures.back))

pub returns-in-Ok-Work : goal.returns-in-Ok-Work
returns-in-Ok-Work g c =
    let w = c.in-Ok-Work in
    let d = c.enter_for-device.result in
    let e = c.begin_unblocked_step.new.self in
    let s = c.leave_sent.new.seat in
    let out : OutPacket = record { ring = c.args.ring; fence = w.fence; packet = w.packet; is_last = c.is_last.result; copy = w.copy; write = w.write; read = w.read } in
    let begun = subst (λ b. HasBegun d c.args.ring b e) w.field-0-is w.ensures.call.1 in
    let last = sym c.leave_sent.ensures.seat.1 in
    record {
      found = d;
      is_found = c.enter_for-device.ensures.found;
      same = same_trans (sees c.args.seat.now) (sees c.enter_for-device.new.seat) (sees s) c.enter_for-device.ensures.same c.leave_sent.ensures.same;
      ring_is = refl;
      free = c.enter_for-device.ensures.free;
      taken = not_out _ (step_refusal d.state c.args.ring) None c.enter_for-device.ensures.free w.ensures.call.0;
      begun = subst (HasBegun d c.args.ring (Work w.fence w.packet w.copy w.write w.read)) last begun;
      last = subst (λ x. c.is_last.result ≡ is_last_packet x w.fence w.packet) last c.is_last.ensures;
      has = record {
        seated = c.leave_sent.ensures.seat.0;
        none = ap (λ h. h.items) c.leave_sent.ensures.holds.0.1 ∙ (ap (λ h. h.items) c.enter_for-device.ensures.holds.0.1 ∙ c.requires.seat.none);
        waits = c.leave_sent.ensures.holds.1 ∙ ap Some c.task.ensures;
        job = subst (λ x. IsPacketOfItsJob x out) last (sent_of_job d e out begun (subst MayRun w.field-0-is w.ensures.runs));
      };
    }

pub leave-requires-clause-onward : goal.leave-requires-clause-onward
leave-requires-clause-onward g c =
    let s = c.in-Ok-Stalled in
    let d = c.enter_for-device.result in
    let e = c.begin_unblocked_step.new.self in
    let same : e.state ≡ d.state = s.ensures.state in
    subst (λ x. GrowsTo x e) (sym c.of-found.ensures) (subst (λ (x : DeviceState). Grows x e.state) same (grows_itself e))

pub leave-requires-in-Err-clause-onward : goal.leave-requires-in-Err-clause-onward
leave-requires-in-Err-clause-onward g c =
    let d = c.enter_for-device.result in
    let e = c.begin_unblocked_step.new.self in
    subst (λ x. GrowsTo x e) (sym c.of-found.ensures) (subst (λ x. GrowsTo x e) c.in-Err.ensures.call.1 (grows_itself e))

pub returns : goal.returns
returns g c =
    let d = c.enter_for-device.result in
    let e = c.begin_unblocked_step.new.self in
    let why = c.in-Err.ensures.call in
    let idle = only_idle d c.args.ring _ (refusal_of_step c.in-Err._idle) c.enter_for-device.ensures.free why.0 in
    let step : device.StepIs c.args.ring (Err Idle) d e = record { done = tt; refused = (idle, why.1); marks = ap (λ (m : MarkedDevice). m.marks) why.1 } in (
      pass_on c.args.self.now c.args.seat.now c.leave-in-Err.new.seat c.requires.seat.none c.requires.seat.idle
          (holds_trans c.args.seat.now c.enter_for-device.new.seat c.leave-in-Err.new.seat c.enter_for-device.ensures.holds c.leave-in-Err.ensures.holds) c.leave-in-Err.ensures.seat.0,
      calls_as (StepIs c.args.ring (Err Idle)) (sees c.args.seat.now) (sees c.enter_for-device.new.seat) (sees c.leave-in-Err.new.seat) d c.of-found.result.value e
          c.enter_for-device.ensures.found c.enter_for-device.ensures.same c.of-found.ensures (subst (λ x. GrowsTo x e) why.1 (grows_itself e))
          c.leave-in-Err.ensures.seat.1 c.leave-in-Err.ensures.call (c.enter_for-device.ensures.free, step),
    )

pub returns-in-Ok-Stalled : goal.returns-in-Ok-Stalled
returns-in-Ok-Stalled g c =
    let s = c.in-Ok-Stalled in
    let d = c.enter_for-device.result in
    let e = c.begin_unblocked_step.new.self in
    let begun = subst (λ b. HasBegun d c.args.ring b e) s.field-0-is s.ensures.call.1 in
    let stalls = subst (λ (x : DeviceState). step_outcome d.state c.args.ring ≡ (answer.Stalled s.fence, x)) (sym (ap (λ (m : MarkedDevice). m.state) begun.1)) begun.0 in
    let step : device.StepIs c.args.ring (Ok (Stalled s.fence)) d e = record { done = (s.ensures.call.0, stalls); refused = tt; marks = ap (λ (m : MarkedDevice). m.marks) begun.1 } in (
      pass_on c.args.self.now c.args.seat.now c.leave.new.seat c.requires.seat.none c.requires.seat.idle
          (holds_trans c.args.seat.now c.enter_for-device.new.seat c.leave.new.seat c.enter_for-device.ensures.holds c.leave.ensures.holds) c.leave.ensures.seat.0,
      calls_as (StepIs c.args.ring (Ok (Stalled s.fence))) (sees c.args.seat.now) (sees c.enter_for-device.new.seat) (sees c.leave.new.seat) d c.of-found.result.value e
          c.enter_for-device.ensures.found c.enter_for-device.ensures.same c.of-found.ensures (subst (λ x. GrowsTo x e) begun.1 (grows_itself e))
          c.leave.ensures.seat.1 c.leave.ensures.call (c.enter_for-device.ensures.free, step, begun.1),
    )
