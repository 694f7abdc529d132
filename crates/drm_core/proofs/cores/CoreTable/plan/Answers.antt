use Rattle.drm_types.specs.declared.spec.DeviceSpec.{DeviceSpec}
use Rattle.drm_job.specs.Fault.{job_fault}
use Rattle.std.proofs.Common.{◌≡◌, None, subst, ◌∙◌, sym, refl, inl, inr, true, false}
use Rattle.drm_core.specs.declared.event.Event.TheVariants as event
use Rattle.drm_state.specs.declared.answer.Refusal.TheVariants as refusal
use Rattle.drm_core.specs.Cores.{core_state}
use Rattle.drm_core.proofs.Submitting.{reply_early}
use Rattle.drm_core.proofs.Locks.{begun_is}
use Rattle.drm_core.proofs.Plans.{plan_boxed, plan_early, held_all, went_well}
use Rattle.drm_core.proofs.cores.CoreTable.plan.Goals as goal

pub returns-then-not-holds_all-clause-step : goal.returns-then-not-holds_all-clause-step
returns-then-not-holds_all-clause-step c =
    let t = c.args.self.now in
    inl (sym (reply_early (core_state t) (event.Plan c.args.ctx c.args.draft) refusal.NotAllHeld
    (plan_early (core_state t) c.args.ctx c.args.draft false (begun_is _ c.has_begun.result c.has_begun.ensures c.if-not-has_begun.false) (subst (λ (p : DeviceSpec). job_fault p c.args.draft ≡ None) c.spec.ensures.value c.in-Ok.ensures.1)
    (held_all t c.args.ctx c.args.draft c.in-Ok.job c.deref.result.now c.declared.result.now c.holds_all.result c.holds_all.ensures c.deref.ensures.value c.declared.ensures c.in-Ok.ensures.0 ∙ c.if-not-holds_all.true))))

pub returns-then-is_err-clause-step : goal.returns-then-is_err-clause-step
returns-then-is_err-clause-step c =
    let t = c.args.self.now in
    inr (record {
      takes = refl;
      is_next = plan_early (core_state t) c.args.ctx c.args.draft true (begun_is _ c.has_begun.result c.has_begun.ensures c.if-not-has_begun.false) (subst (λ (p : DeviceSpec). job_fault p c.args.draft ≡ None) c.spec.ensures.value c.in-Ok.ensures.1)
          (held_all t c.args.ctx c.args.draft c.in-Ok.job c.deref.result.now c.declared.result.now c.holds_all.result c.holds_all.ensures c.deref.ensures.value c.declared.ensures c.in-Ok.ensures.0 ∙ c.if-not-holds_all.false);
      answers = refl;
      keeps = c.make_room.ensures.state;
    })

pub returns-in-Err-new-clause-step : goal.returns-in-Err-new-clause-step
returns-in-Err-new-clause-step c =
    let t = c.args.self.now in
    inr (record {
      takes = refl;
      is_next = plan_early (core_state t) c.args.ctx c.args.draft true (begun_is _ c.has_begun.result c.has_begun.ensures c.if-not-has_begun.false) (subst (λ (p : DeviceSpec). job_fault p c.args.draft ≡ None) c.spec.ensures.value c.in-Ok.ensures.1)
          (held_all t c.args.ctx c.args.draft c.in-Ok.job c.deref.result.now c.declared.result.now c.holds_all.result c.holds_all.ensures c.deref.ensures.value c.declared.ensures c.in-Ok.ensures.0 ∙ c.if-not-holds_all.false);
      answers = refl;
      keeps = c.make_room.ensures.state;
    })

pub returns-clause-step : goal.returns-clause-step
returns-clause-step c =
    let t = c.args.self.now in
    let m = c.make_room.new.self in
    (plan_boxed (core_state t) m c.args.ctx c.args.draft (record { job = c.in-Ok.job; deps = c.collect.new.deps }) c.in-Ok-new.plan c.index_mut.result.now c.set_plan.new.context
    c.in-Ok-new.ensures.ok c.make_room.ensures.core c.make_room.ensures.state c.requires.ctx c.in-Ok.ensures.0 (begun_is _ c.has_begun.result c.has_begun.ensures c.if-not-has_begun.false) (subst (λ (p : DeviceSpec). job_fault p c.args.draft ≡ None) c.spec.ensures.value c.in-Ok.ensures.1)
    (held_all t c.args.ctx c.args.draft c.in-Ok.job c.deref.result.now c.declared.result.now c.holds_all.result c.holds_all.ensures c.deref.ensures.value c.declared.ensures c.in-Ok.ensures.0 ∙ c.if-not-holds_all.false)
    c.collect.ensures (went_well c.make_room.result c.is_err.result c.is_err.ensures.value c.if-is_err.false c.make_room.ensures.room)
    c.index_mut.ensures.value c.set_plan.ensures).0

pub returns-clause-core : goal.returns-clause-core
returns-clause-core c =
    let t = c.args.self.now in
    let m = c.make_room.new.self in
    (plan_boxed (core_state t) m c.args.ctx c.args.draft (record { job = c.in-Ok.job; deps = c.collect.new.deps }) c.in-Ok-new.plan c.index_mut.result.now c.set_plan.new.context
    c.in-Ok-new.ensures.ok c.make_room.ensures.core c.make_room.ensures.state c.requires.ctx c.in-Ok.ensures.0 (begun_is _ c.has_begun.result c.has_begun.ensures c.if-not-has_begun.false) (subst (λ (p : DeviceSpec). job_fault p c.args.draft ≡ None) c.spec.ensures.value c.in-Ok.ensures.1)
    (held_all t c.args.ctx c.args.draft c.in-Ok.job c.deref.result.now c.declared.result.now c.holds_all.result c.holds_all.ensures c.deref.ensures.value c.declared.ensures c.in-Ok.ensures.0 ∙ c.if-not-holds_all.false)
    c.collect.ensures (went_well c.make_room.result c.is_err.result c.is_err.ensures.value c.if-is_err.false c.make_room.ensures.room)
    c.index_mut.ensures.value c.set_plan.ensures).1
