use Rattle.std.proofs.Common.{Ok, Err, subst, sym}
use Rattle.drm_state.specs.Held.{kept_of}
use Rattle.drm_fence.specs.declared.phase.Phase.TheVariants.{Ended}
use Rattle.drm_state.specs.Keeps.{word_of}
use Rattle.drm_gpu.specs.Answers.{FinishIs}
use Rattle.drm_gpu.specs.Submissions.{KeepsOthers}
use Rattle.drm_gpu.proofs.Called.{called}
use Rattle.drm_gpu.proofs.Chains.{pass_left}
use Rattle.drm_gpu.proofs.Holders.{fits_but, keeps_but}
use Rattle.drm_gpu.proofs.gpu.Gpu.finish.Goals as goal

pub returns-in-Ok : goal.returns-in-Ok
returns-in-Ok g c =
    let d = c.enter_for-device.result in
    let a = c.finish in
    record {
      call = called (FinishIs c.args.ring c.args.now (Ok c.in-Ok.done)) c.args.self.now c.args.pass.now c.pass.inside.seat.place.table_id c.pass.inside.seat c.enter_for-device.new.seat c.show_and_leave.new.seat d c.of-found.result.value a.new.self
          c.pass.view_is c.requires.pass c.enter_for-device.ensures.found c.enter_for-device.ensures.same c.of-found.ensures a.ensures.sound.grows c.show_and_leave.ensures.seat c.show_and_leave.ensures.call
          (c.enter_for-device.ensures.free, c.in-Ok.ensures.call);
    }

pub returns : goal.returns
returns g c =
    let d = c.enter_for-device.result in
    let a = c.finish in
    record {
      call = called (FinishIs c.args.ring c.args.now (Err c.in-Err.error)) c.args.self.now c.args.pass.now c.pass.inside.seat.place.table_id c.pass.inside.seat c.enter_for-device.new.seat c.leave.new.seat d c.of-found.result.value a.new.self
          c.pass.view_is c.requires.pass c.enter_for-device.ensures.found c.enter_for-device.ensures.same c.of-found.ensures a.ensures.sound.grows c.leave.ensures.seat c.leave.ensures.call
          (c.enter_for-device.ensures.free, c.in-Err.ensures.call);
    }

pub invariant_of-pass-in-Err : goal.invariant_of-pass-in-Err
invariant_of-pass-in-Err g c =
    pass_left c.args.self.now _ c.pass.inside.seat c.enter_for-device.new.seat c.leave.new.seat c.pass.invariant c.enter_for-device.ensures.holds c.leave.ensures.holds c.leave.ensures.seat.0

pub invariant_of-pass : goal.invariant_of-pass
invariant_of-pass g c =
    pass_left c.args.self.now _ c.pass.inside.seat c.enter_for-device.new.seat c.show_and_leave.new.seat c.pass.invariant c.enter_for-device.ensures.holds c.show_and_leave.ensures.holds c.show_and_leave.ensures.seat.0

pub show_and_leave-requires-clause-shown : goal.show_and_leave-requires-clause-shown
show_and_leave-requires-clause-shown g c =
    let d = c.enter_for-device.result in
    let e = c.finish.new.self in
    let held = kept_of c.enter_for-device.new.seat.held.items in
    let word = word_of (Ended c.in-Ok.done.outcome) in
    subst (λ x. KeepsOthers held c.in-Ok.done.fence word x e) (sym c.of-found.ensures) (keeps_but c.in-Ok.done.fence word d e held c.in-Ok.ensures.keeps)

pub show_and_leave-requires-clause-fit : goal.show_and_leave-requires-clause-fit
show_and_leave-requires-clause-fit g c =
    let d = c.enter_for-device.result in
    let e = c.finish.new.self in
    let word = word_of (Ended c.in-Ok.done.outcome) in
    fits_but c.in-Ok.done.fence word d e (kept_of c.enter_for-device.new.seat.held.items) c.in-Ok.ensures.keeps c.enter_for-device.ensures.fit
