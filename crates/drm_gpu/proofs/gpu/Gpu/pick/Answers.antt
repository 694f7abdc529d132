use Rattle.drm_gpu.specs.Answers.{PickIs}
use Rattle.drm_gpu.proofs.Called.{called}
use Rattle.drm_gpu.proofs.Chains.{pass_left}
use Rattle.drm_gpu.proofs.gpu.Gpu.pick.Goals as goal

pub returns : goal.returns
returns g c =
    let d = c.enter-device.result in
    let a = c.pick-answer in
    record {
      call = called (PickIs c.args.ring c.args.now a.result) c.args.self.now c.args.pass.now c.pass.inside.seat.place.table_id c.pass.inside.seat c.enter-device.new.seat c.leave.new.seat d c.of-found.result.value a.new.self
          c.pass.view_is c.requires.pass c.enter-device.ensures.found c.enter-device.ensures.same c.of-found.ensures a.ensures.sound.grows c.leave.ensures.seat c.leave.ensures.call a.ensures.call;
    }

pub invariant_of-pass : goal.invariant_of-pass
invariant_of-pass g c =
    pass_left c.args.self.now _ c.pass.inside.seat c.enter-device.new.seat c.leave.new.seat c.pass.invariant c.enter-device.ensures.holds c.leave.ensures.holds c.leave.ensures.seat.0
