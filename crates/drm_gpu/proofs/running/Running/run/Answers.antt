use Rattle.std.proofs.Common.{◌≡◌, ◌∙◌, ap, sym, subst, Ok}
use Rattle.ww_lock.specs.Seats.{sees}
use Rattle.drm_state.specs.declared.answer.Stepped.{Stepped}
use Rattle.drm_state.specs.declared.answer.Stepped.TheVariants.{Ran}
use Rattle.drm_gpu.specs.Answers.{StepIs}
use Rattle.drm_gpu.specs.declared.running.OutPacket.{OutPacket}
use Rattle.drm_gpu.specs.Passes.{Calls, CallsAs, PassState, pass_of}
use Rattle.drm_gpu.specs.Running.{RunningState}
use Rattle.drm_gpu.proofs.Called.{at_gpu, calls_are, of_gpu}
use Rattle.drm_gpu.proofs.running.Running.run.Goals as goal

pub finish_packet-ran-requires : goal.finish_packet-ran-requires
finish_packet-ran-requires g c = record { sent = c.self.inside.out; has = c.self.invariant; task = c.run.ensures.task; bytes = c.run.ensures.bytes }

pub returns-clause-ran : goal.returns-clause-ran
returns-clause-ran g c =
    c.finish_packet-ran.ensures.ran ∙ (ap (λ (o : OutPacket). Ran o.fence o.packet) c.run.ensures.bytes ∙ ap (λ (r : RunningState). Ran r.fence r.packet) c.self.view_is)

pub returns-clause-call : goal.returns-clause-call
returns-clause-call g c =
    let gpu = c.self.inside.gpu.now in
    let old = c.args.self.pass in
    let out = c.self.inside.out in
    let s = c.self.inside.seat in
    let t = c.finish_packet-ran.new.seat in
    let view : pass_of gpu.home (sees s) ≡ old = ap (λ (r : RunningState). r.pass) c.self.view_is in
    let belongs : old.gpu ≡ gpu = sym (ap (λ (p : PassState). p.gpu) view) ∙ of_gpu gpu (sees s) c.self.invariant.seated.knows in
    let ran : CallsAs (StepIs out.ring (Ok c.finish_packet-ran.result)) (sees s) (sees t) =
    subst (λ ring. CallsAs (StepIs ring (Ok c.finish_packet-ran.result)) (sees s) (sees t)) (ap (λ (o : OutPacket). o.ring) c.run.ensures.bytes)
    (subst (λ (r : Stepped). CallsAs (StepIs c.run.result.out.ring (Ok r)) (sees s) (sees t)) (sym c.finish_packet-ran.ensures.ran) c.finish_packet-ran.ensures.call) in
    let call = calls_are (StepIs out.ring (Ok c.finish_packet-ran.result)) gpu old gpu.home t.place.table_id (sees s) (sees t) view belongs (at_gpu gpu t c.finish_packet-ran.ensures.seat.seated) ran in
    subst (λ (r : RunningState). Calls (StepIs r.ring (Ok c.finish_packet-ran.result)) old (pass_of t.place.table_id (sees t))) c.self.view_is call
