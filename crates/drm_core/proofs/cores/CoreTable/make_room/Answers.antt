use Rattle.std.proofs.Common.{◌≡◌, ◌<◌, sym, subst, length, Some, slice_get}
use Rattle.std.specs.Vec.{with_items}
use Rattle.drm_core.proofs.Collecting.{declared_below}
use Rattle.drm_core.proofs.Submitting.{roomier, roomy_in_vector, more_in_vector}
use Rattle.drm_core.proofs.cores.CoreTable.make_room.Goals as goal

pub reserve-requires : goal.reserve-requires
reserve-requires c k d at =
    let t = c.args.self.now in
    let below = declared_below c.jobs_are_the_sound_drafts.ensures t.device.state.spec c.args.job.now k d c.requires.job (subst (λ ds. slice_get ds k ≡ Some d) c.declared.ensures at) in
    subst (λ rs. d.0 < length rs) (sym c.deref_mut.ensures.value) (subst (λ n. d.0 < n) (sym c.requires.core.reservation_count) below)

pub returns-clause-state : goal.returns-clause-state
returns-clause-state c =
    let t = c.args.self.now in
    (roomier t (with_items t.reservations c.reserve.new.reservations) c.requires.core (more_in_vector t c.deref_mut.result.now c.reserve.new.reservations c.deref_mut.ensures.value c.reserve.ensures.more)).0

pub returns-clause-room : goal.returns-clause-room
returns-clause-room c =
    let t = c.args.self.now in
    roomy_in_vector t c.args.job.now c.declared.result.now c.deref_mut.result.now c.reserve.new.reservations c.reserve.result c.deref_mut.ensures.value c.declared.ensures c.reserve.ensures.more c.reserve.ensures.room

pub returns-clause-core : goal.returns-clause-core
returns-clause-core c =
    let t = c.args.self.now in
    (roomier t (with_items t.reservations c.reserve.new.reservations) c.requires.core (more_in_vector t c.deref_mut.result.now c.reserve.new.reservations c.deref_mut.ensures.value c.reserve.ensures.more)).1
