use Rattle.std.proofs.Common.{◌≡◌, ◌∙◌, ap, sym, subst, length}
use Rattle.std.specs.Prelude.{option_map}
use Rattle.std.specs.Vec.{with_items}
use Rattle.drm_fence.specs.Fences.{has_ended_at}
use Rattle.drm_state.specs.Errors.{refusal_of_arm}
use Rattle.drm_state.specs.Held.{kept_of, armed_held, AllFit}
use Rattle.drm_sched.specs.Calls.{ArmIs}
use Rattle.drm_sched.specs.Marks.{MarkedDevice, IsSteadyMarked}
use Rattle.drm_sched.specs.Parts.{marked_of}
use Rattle.drm_state.specs.Refusals.{arm_refusal}
use Rattle.drm_table.specs.Tables.{state_of}
use Rattle.drm_state.proofs.Growth.{grows_itself}
use Rattle.drm_state.proofs.HeldFacts.{held_in_vector, held_after, held_order}
use Rattle.drm_sched.proofs.Boxed.{device_read, heads_read, view_read, whole_read}
use Rattle.drm_sched.proofs.Calls.{armed_keeps, arm_stays_lawful}
use Rattle.drm_sched.proofs.device_calls.Device.arm.Goals as goal

pub returns-in-Some-clause-sound : goal.returns-in-Some-clause-sound
returns-in-Some-clause-sound c = record {
  lawful = (subst IsSteadyMarked c.self.view_is c.self.invariant.0.steady).state.lawful;
  grows = grows_itself c.args.self.now.state;
}

pub arm-requires-clause-may : goal.arm-requires-clause-may
arm-requires-clause-may c =
    let job = c.args.plan.job in
    ap (λ (d : MarkedDevice). arm_refusal d.state job) (view_read c.deref_mut-parts.ensures.value c.self.view_is)
    ∙ (ap (λ (d : MarkedDevice). arm_refusal d.state job) (sym (view_read c.deref.ensures c.self.view_is)) ∙ (sym c.arm_refusal.ensures ∙ ap (option_map refusal_of_arm) c.in_default.is))

pub returns-clause-held : goal.returns-clause-held
returns-clause-held c =
    let t = c.deref_mut-parts.result.now.table in
    let job = c.args.plan.job in
    let v = c.args.held.now in
    let uses = held_in_vector v (has_ended_at t.fences.list) c.armed-fence.result (length t.journal.items) job c.deref_mut.result.now c.add_held_uses.new.held
    (c.armed-fence.ensures ∙ ap (λ (d : MarkedDevice). length d.state.journal) (sym (view_read c.deref_mut-parts.ensures.value c.self.view_is))) c.deref_mut.ensures.value c.add_held_uses.ensures in
    let new = (with_items v c.add_held_uses.new.held).items in
    subst (λ (d : MarkedDevice). kept_of new ≡ armed_held d.state.journal job (kept_of v.items)) (view_read c.deref_mut-parts.ensures.value c.self.view_is)
    (held_after (state_of t) (state_of c.arm.new.self.table) t.fences.list job v.items new (whole_read c.deref_mut-parts.ensures.value c.self.invariant.0).table.fences (whole_read c.deref_mut-parts.ensures.value c.self.invariant.0).table.steady.lawful.entities c.arm.ensures.call.armed uses).0

pub returns-clause-order : goal.returns-clause-order
returns-clause-order c =
    let t = c.deref_mut-parts.result.now.table in
    let job = c.args.plan.job in
    let v = c.args.held.now in
    let uses = held_in_vector v (has_ended_at t.fences.list) c.armed-fence.result (length t.journal.items) job c.deref_mut.result.now c.add_held_uses.new.held
    (c.armed-fence.ensures ∙ ap (λ (d : MarkedDevice). length d.state.journal) (sym (view_read c.deref_mut-parts.ensures.value c.self.view_is))) c.deref_mut.ensures.value c.add_held_uses.ensures in
    let new = (with_items v c.add_held_uses.new.held).items in
    held_order t.journal.items job v.items new
    (held_after (state_of t) (state_of c.arm.new.self.table) t.fences.list job v.items new (whole_read c.deref_mut-parts.ensures.value c.self.invariant.0).table.fences (whole_read c.deref_mut-parts.ensures.value c.self.invariant.0).table.steady.lawful.entities c.arm.ensures.call.armed uses).0

pub returns-clause-fit : goal.returns-clause-fit
returns-clause-fit c =
    let t = c.deref_mut-parts.result.now.table in
    let job = c.args.plan.job in
    let v = c.args.held.now in
    let uses = held_in_vector v (has_ended_at t.fences.list) c.armed-fence.result (length t.journal.items) job c.deref_mut.result.now c.add_held_uses.new.held
    (c.armed-fence.ensures ∙ ap (λ (d : MarkedDevice). length d.state.journal) (sym (view_read c.deref_mut-parts.ensures.value c.self.view_is))) c.deref_mut.ensures.value c.add_held_uses.ensures in
    let new = (with_items v c.add_held_uses.new.held).items in
    subst (λ (d : MarkedDevice). AllFit d.state.journal (kept_of v.items) → AllFit (state_of c.arm.new.self.table).journal (kept_of new)) (view_read c.deref_mut-parts.ensures.value c.self.view_is)
    (held_after (state_of t) (state_of c.arm.new.self.table) t.fences.list job v.items new (whole_read c.deref_mut-parts.ensures.value c.self.invariant.0).table.fences (whole_read c.deref_mut-parts.ensures.value c.self.invariant.0).table.steady.lawful.entities c.arm.ensures.call.armed uses).1

pub returns-clause-armed : goal.returns-clause-armed
returns-clause-armed c = device_read (λ d. ArmIs c.args.plan.job c.arm.result d (marked_of c.arm.new.self)) c.deref_mut-parts.ensures.value c.self.view_is c.arm.ensures.call

pub returns-clause-marks : goal.returns-clause-marks
returns-clause-marks c = (returns-clause-armed c).marks

pub returns-clause-sound : goal.returns-clause-sound
returns-clause-sound c =
    arm_stays_lawful c.args.self.now (marked_of c.arm.new.self) c.args.plan.job c.arm.result c.arm.ensures.whole.steady.state.lawful (returns-clause-armed c)

pub returns-clause-keeps : goal.returns-clause-keeps
returns-clause-keeps c = armed_keeps c.args.self.now (marked_of c.arm.new.self) c.args.plan.job c.arm.result (returns-clause-armed c)

pub arm-requires-clause-whole : goal.arm-requires-clause-whole
arm-requires-clause-whole c = whole_read c.deref_mut-parts.ensures.value c.self.invariant.0

pub arm-requires-clause-heads : goal.arm-requires-clause-heads
arm-requires-clause-heads c = heads_read c.deref_mut-parts.ensures.value c.self.invariant.1
