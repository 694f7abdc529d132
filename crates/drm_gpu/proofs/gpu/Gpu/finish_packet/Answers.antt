use Rattle.std.proofs.Common.{Ok, ◌∙◌, Some, ap, sym, subst}
use Rattle.ww_lock.specs.Seats.{sees}
use Rattle.drm_sched.specs.Begun.{HasReported, IsReport}
use Rattle.drm_sched.specs.Marks.{IsBusy}
use Rattle.drm_state.specs.declared.answer.Stepped.TheVariants.{Ran}
use Rattle.drm_gpu.specs.declared.running.OutPacket.{OutPacket}
use Rattle.drm_gpu.specs.Answers.{StepIs}
use Rattle.drm_gpu.specs.Passes.{last_of}
use Rattle.drm_gpu.proofs.Called.{calls_as}
use Rattle.drm_gpu.proofs.Packets.{job_later, may_report, reported_is}
use Rattle.drm_gpu.proofs.gpu.Gpu.finish_packet.Goals as goal

pub report-requires : goal.report-requires
report-requires g c =
    let d = c.enter-device.result in
    let out = c.requires.sent in
    let job = job_later (last_of (sees c.args.seat.now)) d out c.requires.has.job c.enter-device.ensures.found.later in
    let busy = c.enter-device.ensures.busy _ c.requires.has.waits in
    let may = may_report d out job busy in
    record { busy = subst (λ (o : OutPacket). IsReport d o.ring o.write o.read) (sym c.requires.bytes) may }

pub leave_reported-requires-clause-waits : goal.leave_reported-requires-clause-waits
leave_reported-requires-clause-waits g c = c.enter-device.ensures.holds.1 ∙ (c.requires.has.waits ∙ ap Some (sym c.requires.task))

pub leave_reported-requires-clause-busy : goal.leave_reported-requires-clause-busy
leave_reported-requires-clause-busy g c =
    let busy = c.enter-device.ensures.busy _ c.requires.has.waits in
    subst (λ d. IsBusy d c.args.ran.task) (sym c.of-found.ensures) (subst (IsBusy c.enter-device.result) (sym c.requires.task) busy)

pub returns-clause-seat : goal.returns-clause-seat
returns-clause-seat g c = record {
  seated = c.leave_reported.ensures.seat.0;
  none = ap (λ h. h.items) c.leave_reported.ensures.holds.0.1 ∙ (ap (λ h. h.items) c.enter-device.ensures.holds.0.1 ∙ c.requires.has.none);
  idle = c.leave_reported.ensures.holds.1;
}

pub returns-clause-call : goal.returns-clause-call
returns-clause-call g c =
    let d = c.enter-device.result in
    let e = c.report.new.self in
    let out = c.requires.sent in
    let busy = c.enter-device.ensures.busy _ c.requires.has.waits in
    let reported = subst (λ (o : OutPacket). HasReported d o.ring c.report.result e) c.requires.bytes c.report.ensures.call in
    let event = subst (λ (o : OutPacket). HasReported d o.ring (o.fence, o.packet) e) (sym c.requires.bytes) (reported_is d e out c.report.result busy reported) in
    calls_as (StepIs c.args.ran.out.ring (Ok (Ran c.args.ran.out.fence c.args.ran.out.packet))) (sees c.args.seat.now) (sees c.enter-device.new.seat) (sees c.leave_reported.new.seat) d c.of-found.result.value e
    c.enter-device.ensures.found c.enter-device.ensures.same c.of-found.ensures c.report.ensures.sound.grows c.leave_reported.ensures.seat.1 c.leave_reported.ensures.call event
