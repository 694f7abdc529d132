use Rattle.std.proofs.Common.{Ok, Err}
use Rattle.ww_lock.specs.Seats.{sees}
use Rattle.drm_state.specs.declared.errors.StepError.TheVariants.{Idle}
use Rattle.drm_state.specs.declared.answer.Stepped.TheVariants.{Stalled}
use Rattle.drm_gpu.specs.Answers.{StepIs}
use Rattle.drm_gpu.proofs.Called.{at_gpu, calls_are, started_of}
use Rattle.drm_gpu.proofs.gpu.Gpu.start.Goals as goal

pub returns-in-Out-clause-started : goal.returns-in-Out-clause-started
returns-in-Out-clause-started g c =
    started_of c.args.self.now c.args.pass c.pass.inside.seat.place.table_id c.args.ring c.in-Out.out (sees c.pass.inside.seat) c.start_packet.new.seat c.pass.view_is c.requires.pass c.in-Out.ensures

pub returns-in-Stalled-clause-nothing : goal.returns-in-Stalled-clause-nothing
returns-in-Stalled-clause-nothing g c =
    let t = c.start_packet.new.seat in
    calls_are (StepIs c.args.ring (Ok (Stalled c.in-Stalled.fence))) c.args.self.now c.args.pass c.pass.inside.seat.place.table_id t.place.table_id (sees c.pass.inside.seat) (sees t)
    c.pass.view_is c.requires.pass (at_gpu c.args.self.now t c.in-Stalled.ensures.0.seated) c.in-Stalled.ensures.1

pub returns-in-Idle-clause-nothing : goal.returns-in-Idle-clause-nothing
returns-in-Idle-clause-nothing g c =
    let t = c.start_packet.new.seat in
    calls_are (StepIs c.args.ring (Err Idle)) c.args.self.now c.args.pass c.pass.inside.seat.place.table_id t.place.table_id (sees c.pass.inside.seat) (sees t)
    c.pass.view_is c.requires.pass (at_gpu c.args.self.now t c.in-Idle.ensures.0.seated) c.in-Idle.ensures.1
