use Rattle.drm_types.specs.declared.spec.DeviceSpec.{DeviceSpec}
use Rattle.drm_job.specs.Fault.{job_fault}
use Rattle.std.proofs.Common.{◌≡◌, None, subst, ◌∙◌, refl, sym}
use Rattle.drm_core.proofs.Submitting.{first_is, ok_has, submit_held, submit_lacks, submit_late, submit_armed, free_apart, plans_same}
use Rattle.drm_core.proofs.cores.CoreTable.submit.Goals as goal

pub returns-in-Some-first_held-clause-step : goal.returns-in-Some-first_held-clause-step
returns-in-Some-first_held-clause-step c =
    let t = c.args.self.now in
    submit_held t c.args.draft c.in-Some-first_held.buffer (subst (λ (p : DeviceSpec). job_fault p c.args.draft ≡ None) c.spec.ensures.value (sym c.first_fault.ensures ∙ c.in_default.is))
    (first_is t c.args.draft c.of_sound-job.result c.deref.result.now c.declared.result.now c.first_held.result c.first_held.ensures c.deref.ensures.value c.declared.ensures c.of_sound-job.ensures ∙ c.in-Some-first_held.is)

pub returns-then-is_err-clause-step : goal.returns-then-is_err-clause-step
returns-then-is_err-clause-step c =
    let t = c.args.self.now in
    submit_lacks t c.make_room.new.self c.args.draft (subst (λ (p : DeviceSpec). job_fault p c.args.draft ≡ None) c.spec.ensures.value (sym c.first_fault.ensures ∙ c.in_default.is))
    (first_is t c.args.draft c.of_sound-job.result c.deref.result.now c.declared.result.now c.first_held.result c.first_held.ensures c.deref.ensures.value c.declared.ensures c.of_sound-job.ensures ∙ c.in_default-first_held.is)
    c.make_room.ensures.state

pub returns-in-Some-arm_refusal-clause-step : goal.returns-in-Some-arm_refusal-clause-step
returns-in-Some-arm_refusal-clause-step c =
    let t = c.args.self.now in
    submit_late t c.make_room.new.self c.args.draft c.of_sound-job.result c.in-Some-arm_refusal.refusal (subst (λ (p : DeviceSpec). job_fault p c.args.draft ≡ None) c.spec.ensures.value (sym c.first_fault.ensures ∙ c.in_default.is))
    (first_is t c.args.draft c.of_sound-job.result c.deref.result.now c.declared.result.now c.first_held.result c.first_held.ensures c.deref.ensures.value c.declared.ensures c.of_sound-job.ensures ∙ c.in_default-first_held.is)
    c.make_room.ensures.state c.make_room.ensures.device c.of_sound-job.ensures (sym c.arm_refusal.ensures ∙ c.in-Some-arm_refusal.is)

pub arm_job-fence-requires-clause-roomy : goal.arm_job-fence-requires-clause-roomy
arm_job-fence-requires-clause-roomy c = ok_has c.make_room.result _ (sym c.is_err.ensures.value ∙ c.if-is_err.false) c.make_room.ensures.room

pub arm_job-fence-requires-clause-apart : goal.arm_job-fence-requires-clause-apart
arm_job-fence-requires-clause-apart c ctx other is =
    let t = c.args.self.now in
    let free = first_is t c.of_sound-job.result c.of_sound-job.result c.deref.result.now c.declared.result.now c.first_held.result c.first_held.ensures c.deref.ensures.value c.declared.ensures refl ∙ c.in_default-first_held.is in
    free_apart t c.of_sound-job.result c.requires.core free ctx other (plans_same t c.make_room.new.self ctx other c.make_room.ensures.contexts is)

pub returns-clause-step : goal.returns-clause-step
returns-clause-step c =
    let t = c.args.self.now in
    submit_armed t c.make_room.new.self c.arm_job-fence.new.self c.args.draft c.of_sound-job.result c.arm_job-fence.result (subst (λ (p : DeviceSpec). job_fault p c.args.draft ≡ None) c.spec.ensures.value (sym c.first_fault.ensures ∙ c.in_default.is))
    (first_is t c.args.draft c.of_sound-job.result c.deref.result.now c.declared.result.now c.first_held.result c.first_held.ensures c.deref.ensures.value c.declared.ensures c.of_sound-job.ensures ∙ c.in_default-first_held.is)
    c.make_room.ensures.state c.make_room.ensures.device c.of_sound-job.ensures (sym c.arm_refusal.ensures ∙ c.in_default-arm_refusal.is) c.arm_job-fence.ensures.number c.arm_job-fence.ensures.armed
