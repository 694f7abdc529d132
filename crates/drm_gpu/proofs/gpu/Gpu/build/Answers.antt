use Rattle.std.proofs.Common.{◌≡◌, ◌∙◌, ap, sym, subst, arith, length, None}
use Rattle.drm_types.specs.Limits.{spec_fault}
use Rattle.drm_resv.specs.Reservation.{WithRoom}
use Rattle.drm_sched.specs.Marks.{MarkedDevice, unmarked}
use Rattle.drm_state.specs.Reservation.{Fits}
use Rattle.drm_state.specs.State.{opened_device}
use Rattle.ww_lock.specs.Boards.{first_pivot}
use Rattle.ww_lock.specs.Lifetime.{AllFit}
use Rattle.drm_gpu.proofs.Built.{few_buffers, blank_fit, count_of}
use Rattle.drm_gpu.proofs.gpu.Gpu.build.Goals as goal

pub new-requires-clause-size : goal.new-requires-clause-size
new-requires-clause-size c =
    let few = few_buffers c.args.spec c.in_ok-device.ensures.ok.1 in
    let count = count_of c.len-buffers.result c.in-Ok.values.items c.in-Ok.ensures in
    let all = c.len-buffers.ensures in
    let len = c.in-Ok.values.ok.0 in
    omega (arith, few, count, all, len)

pub new-requires-clause-facts : goal.new-requires-clause-facts
new-requires-clause-facts c = (
  c.in_ok-device.ensures.lawful,
  subst (λ (d : MarkedDevice). AllFit (λ b (r : WithRoom). Fits b d.state.journal r.kept) 0 c.in-Ok.values.items) (sym c.in_ok-device.ensures.ok.0)
      (blank_fit 0 c.len-buffers.result c.in-Ok.values.items c.in-Ok.ensures),
)

pub invariant_of-result : goal.invariant_of-result
invariant_of-result c =
    let e = c.in-Ok-new.ensures.board in
    let p : first_pivot c.in-Ok-new.board ≡ unmarked (opened_device c.args.spec) = e.2 ∙ c.in_ok-device.ensures.ok.0 in (
      e.1 ∙ ap (λ (d : MarkedDevice). d.state.spec.max_jobs) (sym p),
      e.0 ∙ (c.in-Ok.values.ok.0 ∙ (count_of c.len-buffers.result c.in-Ok.values.items c.in-Ok.ensures ∙ (c.len-buffers.ensures ∙ ap (λ (d : MarkedDevice). length d.state.spec.buffers) (sym p)))),
      subst (λ (d : MarkedDevice). spec_fault d.state.spec ≡ None) (sym p) c.in_ok-device.ensures.ok.1,
    )
