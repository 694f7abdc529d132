use Rattle.drm_gpu.specs.Answers.{TimeoutIs}
use Rattle.drm_gpu.proofs.Called.{called}
use Rattle.drm_gpu.proofs.Chains.{pass_left}
use Rattle.drm_gpu.proofs.gpu.Gpu.timeout.Goals as goal

pub returns : goal.returns
returns g c =
    let d = c.enter_for-device.result in
    let a = c.timeout in
    record {
      call = called (TimeoutIs c.args.ring c.args.now c.in-Ok.answer) c.args.self.now c.args.pass.now c.pass.inside.seat.place.table_id c.pass.inside.seat c.enter_for-device.new.seat c.leave.new.seat d c.of-found.result.value a.new.self
          c.pass.view_is c.requires.pass c.enter_for-device.ensures.found c.enter_for-device.ensures.same c.of-found.ensures a.ensures.sound.grows c.leave.ensures.seat c.leave.ensures.call
          (c.enter_for-device.ensures.free, c.in-Ok.ensures.call);
    }

pub invariant_of-pass : goal.invariant_of-pass
invariant_of-pass g c =
    pass_left c.args.self.now _ c.pass.inside.seat c.enter_for-device.new.seat c.leave.new.seat c.pass.invariant c.enter_for-device.ensures.holds c.leave.ensures.holds c.leave.ensures.seat.0
