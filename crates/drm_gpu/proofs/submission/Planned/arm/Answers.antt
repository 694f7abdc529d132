use Rattle.std.proofs.Common.{◌≡◌, ◌∙◌, ap, sym, subst, true, None, map}
use Rattle.ww_lock.specs.Acquiring.{Holds, view}
use Rattle.ww_lock.specs.Seats.{sees}
use Rattle.ww_lock.specs.Steps.{number_of}
use Rattle.drm_types.specs.declared.spec.DeviceSpec.{DeviceSpec}
use Rattle.drm_job.specs.Fault.{IsJob}
use Rattle.drm_state.specs.declared.plans.Plan.{Plan}
use Rattle.drm_state.specs.Collected.{CoverWhereFit}
use Rattle.drm_state.specs.Held.{HaveRoom, HoldsAll, kept_of, armed_held}
use Rattle.drm_state.specs.Keeps.{Keeps}
use Rattle.drm_sched.specs.Marks.{MarkedDevice}
use Rattle.drm_gpu.specs.Passes.{Entered, Fitting, IsSameBut, pass_of}
use Rattle.drm_gpu.specs.Submissions.{PlannedSubmission, DeviceAcquire, KeepsOthers, ArmIs, ArmRefused}
use Rattle.drm_gpu.proofs.Grown.{keeps_itself}
use Rattle.drm_gpu.proofs.Holders.{all_fit, fit_after, keeps_others, put_back, called_with, holding_on, inside_still}
use Rattle.drm_gpu.proofs.submission.Planned.arm.Goals as goal

pub enter-device-requires : goal.enter-device-requires
enter-device-requires g c = c.self.invariant.0.seat

pub arm-answer-requires-clause-job : goal.arm-answer-requires-clause-job
arm-answer-requires-clause-job g c =
    subst (λ (s : DeviceSpec). IsJob s c.self.inside.plan.job) (sym (c.enter-device.ensures.found.later.spec ∙ c.self.invariant.0.seat.knows.described)) c.self.invariant.2

pub arm-answer-requires-clause-covers : goal.arm-answer-requires-clause-covers
arm-answer-requires-clause-covers g c =
    let d = c.enter-device.result in
    let job = c.self.inside.plan.job in
    c.self.invariant.4.in_each d.state c.enter-device.ensures.found.lawful
    (subst (λ (s : DeviceSpec). IsJob s job) (sym (c.enter-device.ensures.found.later.spec ∙ c.self.invariant.0.seat.knows.described)) c.self.invariant.2)
    (all_fit d (kept_of c.self.inside.acquire.seat.held.items) (subst (λ h. Fitting d (kept_of h.items)) c.enter-device.ensures.holds.0.1 c.enter-device.ensures.fit))

pub arm-answer-requires-clause-room : goal.arm-answer-requires-clause-room
arm-answer-requires-clause-room g c =
    subst (λ h. HaveRoom c.self.inside.plan.job h.items) (sym (c.take_values-held.ensures.values ∙ c.enter-device.ensures.holds.0.1)) c.self.invariant.5

pub put_values-requires : goal.put_values-requires
put_values-requires g c =
    let gpu = c.self.inside.gpu.now in
    let inside = inside_still gpu c.enter-device.result c.self.inside.acquire c.enter-device.new.seat c.self.invariant.0.own c.enter-device.ensures.holds c.enter-device.ensures.entered in
    (c.take_values-held.ensures.lent true gpu.home inside).1 ∙ sym c.arm-answer.ensures.order

pub show_and_leave-requires-clause-entered : goal.show_and_leave-requires-clause-entered
show_and_leave-requires-clause-entered g c =
    let gpu = c.self.inside.gpu.now in
    let e = c.enter-device.ensures.entered in
    let inside = inside_still gpu c.enter-device.result c.self.inside.acquire c.enter-device.new.seat c.self.invariant.0.own c.enter-device.ensures.holds e in
    subst (λ d. Entered gpu d c.put_values.new.self.seat) (sym c.of-found.ensures)
    (put_back gpu c.enter-device.result c.enter-device.new.seat c.put_values.new.self.seat e
    (ap (λ (a : DeviceAcquire). view a) c.put_values.ensures.values ∙ ap (λ (a : DeviceAcquire). view a) c.take_values-held.ensures.left)
    (c.put_values.ensures.holds true gpu.home (c.take_values-held.ensures.lent true gpu.home inside).0).sits)

pub show_and_leave-requires-clause-shown : goal.show_and_leave-requires-clause-shown
show_and_leave-requires-clause-shown g c =
    let d = c.enter-device.result in
    let e = c.arm-answer.new.device in
    let job = c.self.inside.plan.job in
    let held = c.self.inside.acquire.seat.held in
    let new = c.put_values.new.self.seat.held in
    let taken = c.take_values-held.ensures.values ∙ c.enter-device.ensures.holds.0.1 in
    let keys : map number_of new.items ≡ map number_of held.items = ap (λ (a : DeviceAcquire). map number_of a.seat.held.items) c.put_values.ensures.values ∙ (c.arm-answer.ensures.order ∙ ap (λ h. map number_of h.items) taken) in
    subst (λ x. KeepsOthers (kept_of new.items) c.in-Ok.fence 1 x e) (sym c.of-found.ensures) (keeps_others job c.in-Ok.fence d e held.items new.items c.self.invariant.3 keys c.in-Ok.ensures.keeps)

pub show_and_leave-requires-clause-fit : goal.show_and_leave-requires-clause-fit
show_and_leave-requires-clause-fit g c =
    let d = c.enter-device.result in
    let e = c.arm-answer.new.device in
    subst (λ (a : DeviceAcquire). Fitting e (kept_of a.seat.held.items)) (sym c.put_values.ensures.values)
    (fit_after d e (kept_of c.take_values-held.result.items) (kept_of c.arm-answer.new.held.items) c.in-Ok.ensures.fit (subst (λ h. Fitting d (kept_of h.items)) (sym c.take_values-held.ensures.values) c.enter-device.ensures.fit))

pub invariant_of-result : goal.invariant_of-result
invariant_of-result g c =
    let gpu = c.self.inside.gpu.now in
    let put = c.put_values.new.self in
    let inside = inside_still gpu c.enter-device.result c.self.inside.acquire c.enter-device.new.seat c.self.invariant.0.own c.enter-device.ensures.holds c.enter-device.ensures.entered in
    let held : Holds true gpu.home put = c.put_values.ensures.holds true gpu.home (c.take_values-held.ensures.lent true gpu.home inside).0 in
    let idle : (view put).task ≡ None = ap (λ (a : DeviceAcquire). (view a).task) c.put_values.ensures.values ∙ (ap (λ (a : DeviceAcquire). (view a).task) c.take_values-held.ensures.left ∙ (c.enter-device.ensures.holds.1 ∙ c.self.invariant.0.idle)) in (
      holding_on gpu put c.show_and_leave.new.seat held.own idle c.show_and_leave.ensures.holds c.show_and_leave.ensures.seat.0,
      ap (λ (a : DeviceAcquire). a.sealed) c.put_values.ensures.values ∙ (ap (λ (a : DeviceAcquire). a.sealed) c.take_values-held.ensures.left ∙ c.self.invariant.1),
    )

pub returns-in-Ok-clause-armed : goal.returns-in-Ok-clause-armed
returns-in-Ok-clause-armed g c =
    let gpu = c.self.inside.gpu.now in
    let d = c.enter-device.result in
    let e = c.arm-answer.new.device in
    let job = c.self.inside.plan.job in
    let held = c.self.inside.acquire.seat.held in
    let last = c.show_and_leave.new.seat in
    let taken = c.take_values-held.ensures.values ∙ c.enter-device.ensures.holds.0.1 in
    let fit : Fitting d (kept_of held.items) = subst (λ h. Fitting d (kept_of h.items)) c.enter-device.ensures.holds.0.1 c.enter-device.ensures.fit in
    let same = ap (λ (a : DeviceAcquire). view a) c.put_values.ensures.values ∙ ap (λ (a : DeviceAcquire). view a) c.take_values-held.ensures.left in
    let does : ArmIs job c.self.inside.plan.deps (kept_of held.items) (kept_of last.held.items) c.in-Ok.fence d e = record {
      call = c.in-Ok.ensures.armed;
      covers = c.self.invariant.4.in_each d.state c.enter-device.ensures.found.lawful
          (subst (λ (s : DeviceSpec). IsJob s job) (sym (c.enter-device.ensures.found.later.spec ∙ c.self.invariant.0.seat.knows.described)) c.self.invariant.2)
          (all_fit d (kept_of held.items) fit);
      fit = all_fit d (kept_of held.items) fit;
      held = ap (λ h. kept_of h.items) (c.show_and_leave.ensures.holds.0.1 ∙ ap (λ (a : DeviceAcquire). a.seat.held) c.put_values.ensures.values)
          ∙ (c.in-Ok.ensures.held ∙ ap (λ h. armed_held d.state.journal job (kept_of h.items)) taken);
    } in
    called_with (ArmIs c.args.self.submission.job c.args.self.deps c.args.self.submission.held (kept_of last.held.items) c.in-Ok.fence) gpu c.args.self.submission.pass
    (view c.self.inside.acquire) (view c.put_values.new.self) (sees last) d c.of-found.result.value e
    (ap (λ (p : PlannedSubmission). p.submission.pass) c.self.view_is) c.self.invariant.0.seat.knows c.enter-device.ensures.found
    (subst (λ v. IsSameBut (view c.self.inside.acquire) v) (sym same) c.enter-device.ensures.same) c.of-found.ensures c.arm-answer.ensures.sound.grows
    c.show_and_leave.ensures.seat.0.knows c.show_and_leave.ensures.seat.1 c.show_and_leave.ensures.call
    (subst (λ (p : PlannedSubmission). ArmIs p.submission.job p.deps p.submission.held (kept_of last.held.items) c.in-Ok.fence d e) c.self.view_is does)

pub leave-requires-clause-entered : goal.leave-requires-clause-entered
leave-requires-clause-entered g c =
    let gpu = c.self.inside.gpu.now in
    let e = c.enter-device.ensures.entered in
    let inside = inside_still gpu c.enter-device.result c.self.inside.acquire c.enter-device.new.seat c.self.invariant.0.own c.enter-device.ensures.holds e in
    subst (λ d. Entered gpu d c.put_values.new.self.seat) (sym c.of-found.ensures)
    (put_back gpu c.enter-device.result c.enter-device.new.seat c.put_values.new.self.seat e
    (ap (λ (a : DeviceAcquire). view a) c.put_values.ensures.values ∙ ap (λ (a : DeviceAcquire). view a) c.take_values-held.ensures.left)
    (c.put_values.ensures.holds true gpu.home (c.take_values-held.ensures.lent true gpu.home inside).0).sits)

pub leave-requires-clause-fit : goal.leave-requires-clause-fit
leave-requires-clause-fit g c =
    subst (λ d. Fitting d (kept_of c.put_values.new.self.seat.held.items)) (sym c.of-found.ensures)
    (subst (λ h. Fitting c.enter-device.result (kept_of h.items)) (sym (ap (λ (a : DeviceAcquire). a.seat.held) c.put_values.ensures.values ∙ (c.in-Err.ensures.refused.2 ∙ c.take_values-held.ensures.values))) c.enter-device.ensures.fit)

pub leave-requires-clause-keeps : goal.leave-requires-clause-keeps
leave-requires-clause-keeps g c =
    let d = c.enter-device.result in
    subst (λ (x : MarkedDevice). Keeps x.state c.arm-answer.new.device.state) (sym c.of-found.ensures)
    (subst (λ (x : MarkedDevice). Keeps d.state x.state) (sym c.in-Err.ensures.refused.0.1) (keeps_itself d))

pub invariant_of-result-in-Err : goal.invariant_of-result-in-Err
invariant_of-result-in-Err g c =
    let gpu = c.self.inside.gpu.now in
    let put = c.put_values.new.self in
    let plan : c.in-Err.plan ≡ c.self.inside.plan = c.in-Err.ensures.refused.1 in
    let taken = c.take_values-held.ensures.values ∙ c.enter-device.ensures.holds.0.1 in
    let last = c.leave.new.seat in
    let back = c.leave.ensures.holds.0.1 ∙ (ap (λ (a : DeviceAcquire). a.seat.held) c.put_values.ensures.values ∙ (c.in-Err.ensures.refused.2 ∙ taken)) in
    let inside = inside_still gpu c.enter-device.result c.self.inside.acquire c.enter-device.new.seat c.self.invariant.0.own c.enter-device.ensures.holds c.enter-device.ensures.entered in
    let held : Holds true gpu.home put = c.put_values.ensures.holds true gpu.home (c.take_values-held.ensures.lent true gpu.home inside).0 in
    let idle : (view put).task ≡ None = ap (λ (a : DeviceAcquire). (view a).task) c.put_values.ensures.values ∙ (ap (λ (a : DeviceAcquire). (view a).task) c.take_values-held.ensures.left ∙ (c.enter-device.ensures.holds.1 ∙ c.self.invariant.0.idle)) in
    let sealed : put.sealed ≡ true = ap (λ (a : DeviceAcquire). a.sealed) c.put_values.ensures.values ∙ (ap (λ (a : DeviceAcquire). a.sealed) c.take_values-held.ensures.left ∙ c.self.invariant.1) in (
      holding_on gpu put last held.own idle c.leave.ensures.holds c.leave.ensures.seat.0,
      sealed,
      subst (λ (p : Plan). IsJob gpu.spec p.job) (sym plan) c.self.invariant.2,
      subst (λ (p : Plan). HoldsAll p.job (kept_of last.held.items)) (sym plan) (subst (λ h. HoldsAll c.self.inside.plan.job (kept_of h.items)) (sym back) c.self.invariant.3),
      subst (λ (p : Plan). CoverWhereFit p.job (kept_of last.held.items) p.deps) (sym plan) (subst (λ h. CoverWhereFit c.self.inside.plan.job (kept_of h.items) c.self.inside.plan.deps) (sym back) c.self.invariant.4),
      subst (λ (p : Plan). HaveRoom p.job last.held.items) (sym plan) (subst (λ h. HaveRoom c.self.inside.plan.job h.items) (sym back) c.self.invariant.5),
    )

pub returns-clause-refused : goal.returns-clause-refused
returns-clause-refused g c =
    let gpu = c.self.inside.gpu.now in
    let d = c.enter-device.result in
    let e = c.arm-answer.new.device in
    let last = c.leave.new.seat in
    let refused = c.in-Err.ensures.refused in
    let taken = c.take_values-held.ensures.values ∙ c.enter-device.ensures.holds.0.1 in
    let same = ap (λ (a : DeviceAcquire). view a) c.put_values.ensures.values ∙ ap (λ (a : DeviceAcquire). view a) c.take_values-held.ensures.left in
    let ticket : c.put_values.new.self.ticket ≡ c.args.self.submission.ticket = ap (λ (a : DeviceAcquire). a.ticket) c.put_values.ensures.values ∙ (ap (λ (a : DeviceAcquire). a.ticket) c.take_values-held.ensures.left
    ∙ ap (λ (p : PlannedSubmission). p.submission.ticket) c.self.view_is) in
    let job : c.in-Err.plan.job ≡ c.args.self.submission.job = ap (λ (p : Plan). p.job) refused.1 ∙ ap (λ (p : PlannedSubmission). p.submission.job) c.self.view_is in
    let deps : c.in-Err.plan.deps ≡ c.args.self.deps = ap (λ (p : Plan). p.deps) refused.1 ∙ ap (λ (p : PlannedSubmission). p.deps) c.self.view_is in
    let held : kept_of last.held.items ≡ c.args.self.submission.held =
    ap (λ h. kept_of h.items) (c.leave.ensures.holds.0.1 ∙ (ap (λ (a : DeviceAcquire). a.seat.held) c.put_values.ensures.values ∙ (refused.2 ∙ taken))) ∙ ap (λ (p : PlannedSubmission). p.submission.held) c.self.view_is in (
      called_with (ArmRefused c.args.self.submission.job c.in-Err.error) gpu c.args.self.submission.pass (view c.self.inside.acquire) (view c.put_values.new.self) (sees last) d c.of-found.result.value e
          (ap (λ (p : PlannedSubmission). p.submission.pass) c.self.view_is) c.self.invariant.0.seat.knows c.enter-device.ensures.found
          (subst (λ v. IsSameBut (view c.self.inside.acquire) v) (sym same) c.enter-device.ensures.same) c.of-found.ensures c.arm-answer.ensures.sound.grows
          c.leave.ensures.seat.0.knows c.leave.ensures.seat.1 c.leave.ensures.call
          (subst (λ (p : PlannedSubmission). ArmRefused p.submission.job c.in-Err.error d e) c.self.view_is refused.0),
      λ i. record { submission = record { pass = pass_of gpu.home (sees last); ticket = ticket i; job = job i; held = held i }; deps = deps i },
    )
