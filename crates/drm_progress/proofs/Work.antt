-- How much is left of jobs, and of their journals.
use Rattle.std.proofs.Common.{◌≡◌, ℕ, zero, suc, ◌+◌, ◌<◌, ◌≤◌, true, List, [], ◌∷◌, length, Some, ap, refl, arith, slice_get}
use Rattle.drm_packet.specs.declared.Packet.{Packet}
use Rattle.drm_job.specs.declared.Draft.{Draft}
use Rattle.drm_fence.specs.declared.phase.Phase.{Phase}
use Rattle.drm_fence.specs.declared.phase.Phase.TheVariants.{Queued, Scheduled, Ended}
use Rattle.drm_fence.specs.Phases.{is_queued}
use Rattle.drm_state.specs.declared.journal.JobRecord.{JobRecord}
use Rattle.drm_state.specs.State.{DeviceState}
use Rattle.drm_state.specs.Grows.{GoesOn, RecordGrows, EachInPlace}
use Rattle.drm_state.specs.Events.{IsKept}
use Rattle.drm_progress.specs.Going.{phases_left, resets_of, resets_asked, work_of, work_left, all_work, all_left}
use Rattle.drm_progress.proofs.Sums.{grown_left, fallen_left, same_whole}

phases_most : (p : Phase) → phases_left p ≤ 2
phases_most Queued = omega arith
phases_most Scheduled = omega arith
phases_most (Ended o) = omega arith

-- a phase that goes on has no more left
phases_fall : (p q : Phase) → GoesOn p q → phases_left q ≤ phases_left p
phases_fall Queued q goes = phases_most q
phases_fall Scheduled Queued goes = absurd goes
phases_fall Scheduled Scheduled goes = omega arith
phases_fall Scheduled (Ended o) goes = omega arith
phases_fall (Ended o) q goes = let none : phases_left q ≡ 0 = ap phases_left goes in omega (arith, none)

pub queued_has_two : (p : Phase) → is_queued p ≡ true → phases_left p ≡ 2
queued_has_two Queued is = refl
queued_has_two Scheduled is = absurd (cc (is))
queued_has_two (Ended o) is = absurd (cc (is))

-- of one record
left_falls : (old new : JobRecord) → RecordGrows old new → work_left new ≤ work_left old
left_falls old new grows =
    let packets : length new.job.packets ≡ length old.job.packets = ap (λ (j : Draft). length j.packets) grows.job in
    let asked : resets_asked new.job.packets ≡ resets_asked old.job.packets = ap (λ (j : Draft). resets_asked j.packets) grows.job in
    let phases = phases_fall old.phase new.phase grows.phase in
    omega (arith, packets, asked, phases, grows.ran, grows.resets)

work_stays : (old new : JobRecord) → RecordGrows old new → work_of new.job ≡ work_of old.job
work_stays old new grows = ap work_of grows.job

left_within : (r : JobRecord) → work_left r ≤ work_of r.job
left_within r = omega (arith, phases_most r.phase)

-- what one packet asks for is asked of the job
pub asked_at : (packets : List Packet) (k : ℕ) (p : Packet) → slice_get packets k ≡ Some p → resets_of p ≤ resets_asked packets
asked_at [] k p at = absurd (cc (at))
asked_at (q ∷ rest) zero p at = let same : q ≡ p = cc (at) in omega (arith, ap resets_of same)
asked_at (q ∷ rest) (suc k) p at = omega (arith, asked_at rest k p at)

-- one record of the old journal has less left in the new one
pub record HasLess (old new : List JobRecord) : Type 0 where
  pub number : ℕ
  pub earlier : JobRecord
  pub later : JobRecord
  pub stood : slice_get old number ≡ Some earlier
  pub stands : slice_get new number ≡ Some later
  pub fewer : work_left later < work_left earlier

-- what a journal grows to has more left by no more than the work of the new jobs
pub journal_grows : (old new : List JobRecord) → EachInPlace RecordGrows old new → all_left new + all_work old ≤ all_left old + all_work new
journal_grows old new grows = grown_left work_left (λ r. work_of r.job) RecordGrows left_falls work_stays left_within old new grows

pub journal_falls : (old new : List JobRecord) → EachInPlace RecordGrows old new → HasLess old new → all_left new + all_work old < all_left old + all_work new
journal_falls old new grows less =
    fallen_left work_left (λ r. work_of r.job) RecordGrows left_falls work_stays left_within old new less.number less.earlier less.later grows less.stood less.stands less.fewer

-- where no job is armed and one has less left, less is left
pub device_falls : (old new : DeviceState) → IsKept old new → HasLess old.journal new.journal → all_left new.journal < all_left old.journal
device_falls old new kept less =
    let falls = journal_falls old.journal new.journal kept.grows.journal less in
    let same : all_work new.journal ≡ all_work old.journal =
    same_whole work_left (λ r. work_of r.job) RecordGrows left_falls work_stays left_within old.journal new.journal kept.grows.journal kept.count in
    omega (arith, falls, same)
