use Rattle.std.proofs.Common.{◌∙◌, ap, sym, subst, Ok, Err}
use Rattle.ww_lock.specs.Seats.{sees}
use Rattle.drm_state.specs.declared.errors.StepError.TheVariants.{Idle}
use Rattle.drm_state.specs.declared.answer.Stepped.{Stepped}
use Rattle.drm_state.specs.declared.answer.Stepped.TheVariants.{Stalled}
use Rattle.drm_sched.specs.declared.outside.Begun.TheVariants.{Work}
use Rattle.drm_sched.specs.Begun.{HasBegun}
use Rattle.drm_sched.specs.Marks.{MarkedDevice}
use Rattle.drm_gpu.specs.declared.running.OutPacket.{OutPacket}
use Rattle.drm_gpu.specs.Answers.{StepIs}
use Rattle.drm_gpu.specs.Passes.{CallsAs, last_of}
use Rattle.drm_gpu.proofs.Called.{at_gpu, calls_after, calls_are}
use Rattle.drm_gpu.proofs.Grown.{grows_trans}
use Rattle.drm_gpu.proofs.Packets.{begun_grows, begun_state}
use Rattle.drm_gpu.proofs.gpu.Gpu.step.Goals as goal

pub finish_packet-requires : goal.finish_packet-requires
finish_packet-requires g c = record { sent = c.in-Out.out; has = c.in-Out.ensures.has; task = c.run.ensures.task; bytes = c.run.ensures.bytes }

pub returns-in-Out : goal.returns-in-Out
returns-in-Out g c =
    let out = c.in-Out.out in
    let v = sees c.pass.inside.seat in
    let s = c.start_packet.new.seat in
    let t = c.finish_packet.new.seat in
    let o = c.in-Out.ensures in
    let begun = subst (λ ring. HasBegun o.found ring (Work out.fence out.packet out.copy out.write out.read) (last_of (sees s))) (sym o.ring_is) o.begun in
    let on = grows_trans (last_of v) o.found (last_of (sees s)) o.is_found.later (begun_grows o.found (last_of (sees s)) out begun) in
    let left = begun_state o.found (last_of (sees s)) out begun in
    let ran : CallsAs (StepIs c.args.ring (Ok c.finish_packet.result)) (sees s) (sees t) =
    subst (λ ring. CallsAs (StepIs ring (Ok c.finish_packet.result)) (sees s) (sees t)) (ap (λ (x : OutPacket). x.ring) c.run.ensures.bytes ∙ o.ring_is)
    (subst (λ (r : Stepped). CallsAs (StepIs c.run.result.out.ring (Ok r)) (sees s) (sees t)) (sym c.finish_packet.ensures.ran) c.finish_packet.ensures.call) in
    record {
      call = calls_are (StepIs c.args.ring (Ok c.finish_packet.result)) c.args.self.now c.args.pass.now c.pass.inside.seat.place.table_id t.place.table_id v (sees t)
          c.pass.view_is c.requires.pass (at_gpu c.args.self.now t c.finish_packet.ensures.seat.seated)
          (calls_after (StepIs c.args.ring (Ok c.finish_packet.result)) v (sees s) (sees t) on (λ all. left ∙ ap (λ (d : MarkedDevice). d.state) (o.is_found.alone all)) o.same ran);
    }

pub returns-in-Stalled : goal.returns-in-Stalled
returns-in-Stalled g c =
    let t = c.start_packet.new.seat in
    record {
      call = calls_are (StepIs c.args.ring (Ok (Stalled c.in-Stalled.fence))) c.args.self.now c.args.pass.now c.pass.inside.seat.place.table_id t.place.table_id (sees c.pass.inside.seat) (sees t)
          c.pass.view_is c.requires.pass (at_gpu c.args.self.now t c.in-Stalled.ensures.0.seated) c.in-Stalled.ensures.1;
    }

pub returns-in-Idle : goal.returns-in-Idle
returns-in-Idle g c =
    let t = c.start_packet.new.seat in
    record {
      call = calls_are (StepIs c.args.ring (Err Idle)) c.args.self.now c.args.pass.now c.pass.inside.seat.place.table_id t.place.table_id (sees c.pass.inside.seat) (sees t)
          c.pass.view_is c.requires.pass (at_gpu c.args.self.now t c.in-Idle.ensures.0.seated) c.in-Idle.ensures.1;
    }
