use Rattle.std.proofs.Common.{◌∙◌, sym, ap, length}
use Rattle.drm_state.specs.declared.answer.Answer.TheVariants as answer
use Rattle.drm_core.specs.Cores.{core_state}
use Rattle.drm_core.proofs.Plans.{plan_taken, arm_unplanned}
use Rattle.drm_core.proofs.cores.CoreTable.arm.Goals as goal

pub arm_job-fence-requires-clause-job : goal.arm_job-fence-requires-clause-job
arm_job-fence-requires-clause-job c =
    (plan_taken c.args.self.now c.args.ctx c.in-Some-take_plan.plan c.index_mut.result.now c.take_plan.new.context c.requires.core c.requires.ctx (sym c.plan_refusal.ensures ∙ c.in_default.is)
    c.index_mut.ensures.value (sym c.take_plan.ensures.taken ∙ c.in-Some-take_plan.is) c.take_plan.ensures.left).job

pub arm_job-fence-requires-clause-covers : goal.arm_job-fence-requires-clause-covers
arm_job-fence-requires-clause-covers c =
    (plan_taken c.args.self.now c.args.ctx c.in-Some-take_plan.plan c.index_mut.result.now c.take_plan.new.context c.requires.core c.requires.ctx (sym c.plan_refusal.ensures ∙ c.in_default.is)
    c.index_mut.ensures.value (sym c.take_plan.ensures.taken ∙ c.in-Some-take_plan.is) c.take_plan.ensures.left).covers

pub arm_job-fence-requires-clause-may : goal.arm_job-fence-requires-clause-may
arm_job-fence-requires-clause-may c =
    (plan_taken c.args.self.now c.args.ctx c.in-Some-take_plan.plan c.index_mut.result.now c.take_plan.new.context c.requires.core c.requires.ctx (sym c.plan_refusal.ensures ∙ c.in_default.is)
    c.index_mut.ensures.value (sym c.take_plan.ensures.taken ∙ c.in-Some-take_plan.is) c.take_plan.ensures.left).may

pub arm_job-fence-requires-clause-roomy : goal.arm_job-fence-requires-clause-roomy
arm_job-fence-requires-clause-roomy c =
    (plan_taken c.args.self.now c.args.ctx c.in-Some-take_plan.plan c.index_mut.result.now c.take_plan.new.context c.requires.core c.requires.ctx (sym c.plan_refusal.ensures ∙ c.in_default.is)
    c.index_mut.ensures.value (sym c.take_plan.ensures.taken ∙ c.in-Some-take_plan.is) c.take_plan.ensures.left).roomy

pub arm_job-fence-requires-clause-apart : goal.arm_job-fence-requires-clause-apart
arm_job-fence-requires-clause-apart c =
    (plan_taken c.args.self.now c.args.ctx c.in-Some-take_plan.plan c.index_mut.result.now c.take_plan.new.context c.requires.core c.requires.ctx (sym c.plan_refusal.ensures ∙ c.in_default.is)
    c.index_mut.ensures.value (sym c.take_plan.ensures.taken ∙ c.in-Some-take_plan.is) c.take_plan.ensures.left).apart

pub arm_job-fence-requires-clause-core : goal.arm_job-fence-requires-clause-core
arm_job-fence-requires-clause-core c =
    (plan_taken c.args.self.now c.args.ctx c.in-Some-take_plan.plan c.index_mut.result.now c.take_plan.new.context c.requires.core c.requires.ctx (sym c.plan_refusal.ensures ∙ c.in_default.is)
    c.index_mut.ensures.value (sym c.take_plan.ensures.taken ∙ c.in-Some-take_plan.is) c.take_plan.ensures.left).core

pub returns-in-Some-take_plan-clause-reply : goal.returns-in-Some-take_plan-clause-reply
returns-in-Some-take_plan-clause-reply c =
    (plan_taken c.args.self.now c.args.ctx c.in-Some-take_plan.plan c.index_mut.result.now c.take_plan.new.context c.requires.core c.requires.ctx (sym c.plan_refusal.ensures ∙ c.in_default.is)
    c.index_mut.ensures.value (sym c.take_plan.ensures.taken ∙ c.in-Some-take_plan.is) c.take_plan.ensures.left).replies
    ∙ (ap (λ z. (answer.Armed (length c.args.self.now.device.state.journal), z)) (sym c.arm_job-fence.ensures.armed) ∙ ap (λ n. (answer.Armed n, core_state c.arm_job-fence.new.self)) (sym c.arm_job-fence.ensures.number))

pub returns-in-None-clause-reply : goal.returns-in-None-clause-reply
returns-in-None-clause-reply c =
    absurd (arm_unplanned c.args.self.now c.args.ctx c.index_mut.result.now c.requires.core c.requires.ctx c.index_mut.ensures.value (sym c.take_plan.ensures.taken ∙ c.in-None.is) (sym c.plan_refusal.ensures ∙ c.in_default.is))

pub returns-in-None-clause-core : goal.returns-in-None-clause-core
returns-in-None-clause-core c =
    absurd (arm_unplanned c.args.self.now c.args.ctx c.index_mut.result.now c.requires.core c.requires.ctx c.index_mut.ensures.value (sym c.take_plan.ensures.taken ∙ c.in-None.is) (sym c.plan_refusal.ensures ∙ c.in_default.is))
