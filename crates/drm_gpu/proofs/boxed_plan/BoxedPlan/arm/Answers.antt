use Rattle.std.proofs.Common.{◌≡◌, ◌<◌, ◌∙◌, refl, ap, sym, subst, arith, length}
use Rattle.std.specs.Prelude.{option_map}
use Rattle.std.specs.Vec.{with_items}
use Rattle.drm_job.specs.declared.Draft.{Draft}
use Rattle.drm_job.specs.Fault.{IsJob}
use Rattle.drm_fence.specs.Fences.{has_ended_at}
use Rattle.drm_state.specs.Errors.{refusal_of_arm}
use Rattle.drm_state.specs.Held.{HaveRoom}
use Rattle.drm_state.specs.Keeps.{KeepsArmed}
use Rattle.drm_state.specs.Plans.{DepsCover}
use Rattle.drm_state.specs.Refusals.{arm_refusal}
use Rattle.drm_state.specs.Uses.{HeldHaveUses}
use Rattle.drm_state.proofs.HeldFacts.{held_after, held_in_vector, held_order}
use Rattle.drm_sched.specs.Calls.{ArmIs}
use Rattle.drm_gpu.specs.declared.boxed_plan.Contents.{Contents}
use Rattle.drm_gpu.proofs.Built.{few_entities}
use Rattle.drm_gpu.proofs.Grown.{grows_itself}
use Rattle.drm_gpu.proofs.boxed_plan.BoxedPlan.arm.Goals as goal

pub returns-in-Some-clause-refused : goal.returns-in-Some-clause-refused
returns-in-Some-clause-refused c =
    let why = ap (arm_refusal c.args.device.now.state) (sym c.job.ensures) ∙ (sym c.arm_refusal.ensures ∙ ap (option_map refusal_of_arm) c.in-Some.is) in ((why, refl), refl, refl)

pub returns-in-Some-clause-sound : goal.returns-in-Some-clause-sound
returns-in-Some-clause-sound c = record { lawful = c.facts.ensures.steady.lawful; grows = grows_itself c.args.device.now }

pub add_held_uses-requires-clause-room : goal.add_held_uses-requires-clause-room
add_held_uses-requires-clause-room c =
    subst (λ (j : Draft). HaveRoom j c.deref_mut.result.now) (sym c.job-2.ensures) (subst (HaveRoom c.args.self.job) (sym c.deref_mut.ensures.value) c.requires.room)

pub add_held_uses-requires-clause-entity : goal.add_held_uses-requires-clause-entity
add_held_uses-requires-clause-entity c =
    let spec = c.args.device.now.state.spec in
    let there = ((c.jobs_are_the_sound_drafts.ensures spec c.args.self.job).0 c.requires.job).entity in
    let few = few_entities spec c.facts.ensures.limits in
    let less : c.args.self.job.entity < 64 = omega (arith, there, few) in
    subst (λ (j : Draft). j.entity < 64) (sym c.job-2.ensures) less

pub arm_job-fence-requires-clause-job : goal.arm_job-fence-requires-clause-job
arm_job-fence-requires-clause-job c = subst (IsJob c.args.device.now.state.spec) (sym c.unbox-boxed.ensures.job) c.requires.job

pub arm_job-fence-requires-clause-covers : goal.arm_job-fence-requires-clause-covers
arm_job-fence-requires-clause-covers c =
    let d = c.args.device.now.state in
    let deps : c.deref_mut-2.result.now.deps ≡ c.args.self.deps = ap (λ (x : Contents). x.deps) c.deref_mut-2.ensures.value ∙ c.unbox-boxed.ensures.deps in
    subst (λ (j : Draft). DepsCover d j c.deref_mut-2.result.now.deps) (sym c.unbox-boxed.ensures.job) (subst (DepsCover d c.args.self.job) (sym deps) c.requires.covers)

pub arm_job-fence-requires-clause-may : goal.arm_job-fence-requires-clause-may
arm_job-fence-requires-clause-may c =
    ap (arm_refusal c.args.device.now.state) (c.unbox-boxed.ensures.job ∙ sym c.job.ensures) ∙ (sym c.arm_refusal.ensures ∙ ap (option_map refusal_of_arm) c.in_default.is)

pub returns-clause-armed : goal.returns-clause-armed
returns-clause-armed c =
    subst (λ (j : Draft). ArmIs j c.arm_job-fence.result c.args.device.now c.arm_job-fence.new.self) c.unbox-boxed.ensures.job c.arm_job-fence.ensures.call

pub returns-clause-held : goal.returns-clause-held
returns-clause-held c =
    let d = c.args.device.now.state in
    let job = c.args.self.job in
    let v = c.args.held.now in
    let fs = c.fences.result.now.list in
    let added = subst (λ (j : Draft). HeldHaveUses (has_ended_at fs) c.armed.result j c.deref_mut.result.now c.add_held_uses.new.held) c.job-2.ensures c.add_held_uses.ensures in
    let uses = held_in_vector v (has_ended_at fs) c.armed.result (length d.journal) job c.deref_mut.result.now c.add_held_uses.new.held c.armed.ensures c.deref_mut.ensures.value added in
    (held_after d c.arm_job-fence.new.self.state fs job v.items (with_items v c.add_held_uses.new.held).items c.fences.ensures c.facts.ensures.steady.lawful.entities (returns-clause-armed c).armed uses).0

pub returns-clause-order : goal.returns-clause-order
returns-clause-order c = held_order c.args.device.now.state.journal c.args.self.job c.args.held.now.items (with_items c.args.held.now c.add_held_uses.new.held).items (returns-clause-held c)

pub returns-clause-fit : goal.returns-clause-fit
returns-clause-fit c =
    let d = c.args.device.now.state in
    let job = c.args.self.job in
    let v = c.args.held.now in
    let fs = c.fences.result.now.list in
    let added = subst (λ (j : Draft). HeldHaveUses (has_ended_at fs) c.armed.result j c.deref_mut.result.now c.add_held_uses.new.held) c.job-2.ensures c.add_held_uses.ensures in
    let uses = held_in_vector v (has_ended_at fs) c.armed.result (length d.journal) job c.deref_mut.result.now c.add_held_uses.new.held c.armed.ensures c.deref_mut.ensures.value added in
    (held_after d c.arm_job-fence.new.self.state fs job v.items (with_items v c.add_held_uses.new.held).items c.fences.ensures c.facts.ensures.steady.lawful.entities (returns-clause-armed c).armed uses).1

pub returns-clause-marks : goal.returns-clause-marks
returns-clause-marks c = (returns-clause-armed c).marks

pub returns-clause-keeps : goal.returns-clause-keeps
returns-clause-keeps c =
    subst (λ (j : Draft). KeepsArmed j c.arm_job-fence.result c.args.device.now.state c.arm_job-fence.new.self.state) c.unbox-boxed.ensures.job c.arm_job-fence.ensures.keeps
