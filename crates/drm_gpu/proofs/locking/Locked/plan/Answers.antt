use Rattle.std.proofs.Common.{◌≡◌, ◌∙◌, ap, sym, subst, true, false}
use Rattle.ww_lock.specs.Acquiring.{view}
use Rattle.drm_job.specs.Fault.{IsJob}
use Rattle.drm_state.specs.Collected.{IsCollected, CoverWhereFit}
use Rattle.drm_state.specs.Held.{HaveRoom, HoldsAll, kept_of}
use Rattle.drm_gpu.specs.Passes.{Seeing, pass_of}
use Rattle.drm_gpu.specs.Submissions.{DeviceAcquire, submission_of}
use Rattle.drm_gpu.proofs.Claims.{parts, room_taken}
use Rattle.drm_gpu.proofs.Holders.{holds, keys_same}
use Rattle.drm_gpu.proofs.locking.Locked.plan.Goals as goal

pub put_values-requires : goal.put_values-requires
put_values-requires c =
    (c.take_values-held.ensures.lent false c.self.inside.gpu.now.home (holds c.self.inside.gpu.now c.self.inside.acquire c.self.invariant.0)).1
    ∙ sym (keys_same c.take_values-held.result.items c.take_all_rooms-room.new.held.items c.take_all_rooms-room.ensures.kept)

pub invariant_of-result : goal.invariant_of-result
invariant_of-result c =
    let gpu = c.self.inside.gpu.now in
    let job = c.self.inside.plan.job in
    let a = c.self.inside.acquire in
    let b = c.put_values.new.self in
    let deps = c.collect.new.self.deps in
    let same = c.collect.ensures.job in
    let seen = ap (λ (z : DeviceAcquire). view z) c.put_values.ensures.values ∙ ap (λ (z : DeviceAcquire). view z) c.take_values-held.ensures.left in
    let kept = ap (λ (z : DeviceAcquire). kept_of z.seat.held.items) c.put_values.ensures.values ∙ (c.take_all_rooms-room.ensures.kept ∙ ap (λ h. kept_of h.items) c.take_values-held.ensures.values) in
    let sealed : b.sealed ≡ true = ap (λ (z : DeviceAcquire). z.sealed) c.put_values.ensures.values ∙ (ap (λ (z : DeviceAcquire). z.sealed) c.take_values-held.ensures.left ∙ c.self.invariant.1) in
    let all : HoldsAll job (kept_of b.seat.held.items) = subst (HoldsAll job) (sym kept) c.self.invariant.3 in
    let covers : CoverWhereFit job (kept_of b.seat.held.items) deps =
    subst (λ hs. CoverWhereFit job (kept_of hs) deps) c.held.ensures (c.collect.ensures.covers (subst (λ hs. HoldsAll job (kept_of hs)) (sym c.held.ensures) all)) in (
      room_taken gpu a b c.self.invariant.0 (c.put_values.ensures.holds false gpu.home (c.take_values-held.ensures.lent false gpu.home (holds gpu c.self.inside.acquire c.self.invariant.0)).0) seen kept,
      sealed,
      subst (IsJob gpu.spec) (sym same) c.self.invariant.2,
      subst (λ j. HoldsAll j (kept_of b.seat.held.items)) (sym same) all,
      subst (λ j. CoverWhereFit j (kept_of b.seat.held.items) deps) (sym same) covers,
      subst (λ (z : DeviceAcquire). HaveRoom c.collect.new.self.job z.seat.held.items) (sym c.put_values.ensures.values) ((c.in-Ok.ensures {u = tt}).room c.collect.new.self.job),
    )

pub invariant_of-result-in-Err : goal.invariant_of-result-in-Err
invariant_of-result-in-Err c =
    let gpu = c.self.inside.gpu.now in
    let job = c.self.inside.plan.job in
    let b = c.put_values.new.self in
    let seen = ap (λ (z : DeviceAcquire). view z) c.put_values.ensures.values ∙ ap (λ (z : DeviceAcquire). view z) c.take_values-held.ensures.left in
    let kept = ap (λ (z : DeviceAcquire). kept_of z.seat.held.items) c.put_values.ensures.values ∙ (c.take_all_rooms-room.ensures.kept ∙ ap (λ h. kept_of h.items) c.take_values-held.ensures.values) in
    let sealed : b.sealed ≡ true = ap (λ (z : DeviceAcquire). z.sealed) c.put_values.ensures.values ∙ (ap (λ (z : DeviceAcquire). z.sealed) c.take_values-held.ensures.left ∙ c.self.invariant.1) in (
      room_taken gpu c.self.inside.acquire b c.self.invariant.0 (c.put_values.ensures.holds false gpu.home (c.take_values-held.ensures.lent false gpu.home (holds gpu c.self.inside.acquire c.self.invariant.0)).0) seen kept,
      sealed,
      c.self.invariant.2,
      subst (HoldsAll job) (sym kept) c.self.invariant.3,
    )

pub returns-in-Ok-clause-planned : goal.returns-in-Ok-clause-planned
returns-in-Ok-clause-planned c =
    let gpu = c.self.inside.gpu.now in
    let job = c.self.inside.plan.job in
    let a = c.self.inside.acquire in
    let b = c.put_values.new.self in
    let same = c.collect.ensures.job in
    let seen = ap (λ (z : DeviceAcquire). view z) c.put_values.ensures.values ∙ ap (λ (z : DeviceAcquire). view z) c.take_values-held.ensures.left in
    let kept = ap (λ (z : DeviceAcquire). kept_of z.seat.held.items) c.put_values.ensures.values ∙ (c.take_all_rooms-room.ensures.kept ∙ ap (λ h. kept_of h.items) c.take_values-held.ensures.values) in
    let ticket = ap (λ (z : DeviceAcquire). z.ticket) c.put_values.ensures.values ∙ ap (λ (z : DeviceAcquire). z.ticket) c.take_values-held.ensures.left in (
      ap (λ j. submission_of gpu.home j b) same
          ∙ (parts job (pass_of gpu.home (view b)) (pass_of gpu.home (view a)) b.ticket a.ticket (kept_of b.seat.held.items) (kept_of a.seat.held.items) (ap (λ (v : Seeing). pass_of gpu.home v) seen) ticket kept ∙ c.self.view_is),
      subst (λ j. IsCollected j (kept_of b.seat.held.items) c.collect.new.self.deps) (sym same)
          (subst (λ hs. IsCollected job (kept_of hs) c.collect.new.self.deps) c.held.ensures c.collect.ensures.collected),
    )
