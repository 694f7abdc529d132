use Rattle.std.proofs.Common.{◌≡◌, ◌<◌, length, subst, sym, Some, slice_get}
use Rattle.std.specs.Vec.{with_items}
use Rattle.drm_fence.specs.Fences.{has_ended_at}
use Rattle.drm_core.proofs.Collecting.{declared_below}
use Rattle.drm_core.proofs.UsesAdded.{declares_once}
use Rattle.drm_core.proofs.CoreArmed.{core_armed, uses_in_vector}
use Rattle.drm_core.proofs.cores.CoreTable.arm_job.Goals as goal

pub add_uses-requires-clause-room : goal.add_uses-requires-clause-room
add_uses-requires-clause-room c k r usage at is = c.requires.roomy k r usage (subst (λ rs. slice_get rs k ≡ Some r) c.deref_mut.ensures.value at) is

pub add_uses-requires-clause-there : goal.add_uses-requires-clause-there
add_uses-requires-clause-there c k d at =
    let t = c.args.self.now in
    let below = declared_below c.jobs_are_the_sound_drafts.ensures t.device.state.spec c.args.job k d c.requires.job at in
    subst (λ rs. d.0 < length rs) (sym c.deref_mut.ensures.value) (subst (λ n. d.0 < n) (sym c.requires.core.reservation_count) below)

pub add_uses-requires-clause-once : goal.add_uses-requires-clause-once
add_uses-requires-clause-once c = declares_once c.jobs_are_the_sound_drafts.ensures c.args.self.now.device.state.spec c.args.job c.requires.job

pub returns-clause-armed : goal.returns-clause-armed
returns-clause-armed c =
    let t = c.args.self.now in
    let fs = c.fences.result.now.list in
    (core_armed c.device_laws.ensures t c.arm_job.new.self (with_items t.reservations c.add_uses.new.reservations) c.args.job fs c.requires.core c.requires.job c.fences.ensures
    (uses_in_vector t (has_ended_at fs) c.armed-fence.result c.args.job c.deref_mut.result.now c.add_uses.new.reservations c.armed-fence.ensures c.deref_mut.ensures.value c.add_uses.ensures)
    c.arm_job.ensures.call.armed c.arm_job.ensures.call.marks c.requires.apart).0

pub returns-clause-core : goal.returns-clause-core
returns-clause-core c =
    let t = c.args.self.now in
    let fs = c.fences.result.now.list in
    (core_armed c.device_laws.ensures t c.arm_job.new.self (with_items t.reservations c.add_uses.new.reservations) c.args.job fs c.requires.core c.requires.job c.fences.ensures
    (uses_in_vector t (has_ended_at fs) c.armed-fence.result c.args.job c.deref_mut.result.now c.add_uses.new.reservations c.armed-fence.ensures c.deref_mut.ensures.value c.add_uses.ensures)
    c.arm_job.ensures.call.armed c.arm_job.ensures.call.marks c.requires.apart).1

pub returns-clause-number : goal.returns-clause-number
returns-clause-number c = c.arm_job.ensures.call.number
