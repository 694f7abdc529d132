-- What stands in a device where a job has a reason, told without the lists by which the reason is found.
use Rattle.std.specs.Prelude.{◌≡◌, ℕ, ◌<◌, ◌≤◌, Bool, not, ◌&&◌, IsTrue, IsFalse, if◌then◌else◌, List, Option, Some, None, slice_get}
use Rattle.drm_fence.specs.declared.phase.Phase.TheVariants.{Scheduled, Ended}
use Rattle.drm_fence.specs.Phases.{is_queued, has_ended}
use Rattle.drm_state.specs.declared.journal.JobRecord.{JobRecord}
use Rattle.drm_state.specs.State.{DeviceState}
use Rattle.drm_state.specs.Journal.{is_complete}
use Rattle.drm_state.specs.Order.{comes_after, is_met}
use Rattle.drm_state.specs.Chosen.{IsFirstQueued, MayBegin, GoesBefore, IsLeast}
use Rattle.drm_state.specs.Ring.{pending_of, credits_of, free_credits, head_of, current_of, is_stopped}
use Rattle.drm_reason.specs.declared.reason.How.{How}
use Rattle.drm_reason.specs.declared.reason.Reason.{Reason}
use Rattle.drm_reason.specs.declared.reason.Reason.TheVariants as reason
use Rattle.drm_reason.specs.Reasons.{how_of, must_follow, stalls}

-- the job of this number is queued, and its entity is not stopped
pub record IsInLine (device : DeviceState) (number : ℕ) (job : JobRecord) : Type 0 where
  pub at : slice_get device.journal number ≡ Some job
  pub queued : IsTrue (is_queued job.phase)
  pub active : IsFalse (is_stopped device job.job.entity)

-- it stands behind the first queued job of its entity, an earlier one
pub record IsBehindQueueHead (device : DeviceState) (number head : ℕ) : Type 0 where
  pub job : JobRecord
  pub line : IsInLine device number job
  pub ahead : JobRecord
  pub first : IsFirstQueued device.journal job.job.entity head ahead
  pub earlier : head < number

-- an earlier job that this one comes after, and that is not met for it
pub record IsUnmet (journal : List JobRecord) (number : ℕ) (job : JobRecord) (fence : ℕ) (earlier : JobRecord) : Type 0 where
  pub before : fence < number
  pub at : slice_get journal fence ≡ Some earlier
  pub follows : IsTrue (comes_after job.job fence earlier.job)
  pub unmet : IsFalse (is_met job.ring earlier)

-- whether the job comes after this earlier one, and that is not met for it
abbrev pub is_unmet : JobRecord → ℕ × JobRecord → Bool
is_unmet job n = comes_after job.job n.0 n.1.job && not (is_met job.ring n.1)

-- it is the first queued job of its entity, and waits for this fence, of those that are not met the least
pub record WaitsForFence (device : DeviceState) (number fence : ℕ) (how : How) (ring : ℕ) (queued : Bool) : Type 0 where
  pub job : JobRecord
  pub line : IsInLine device number job
  pub first : IsFirstQueued device.journal job.job.entity number job
  pub earlier : JobRecord
  pub unmet : IsUnmet device.journal number job fence earlier
  pub least : (i : ℕ) (other : JobRecord) → i < fence → IsUnmet device.journal number job i other → ⊥
  pub held : how ≡ how_of earlier.job job.job
  pub place : ring ≡ earlier.ring
  pub phase : queued ≡ is_queued earlier.phase

-- it may begin on the ring, and the job that the ring takes next goes before it
pub record IsBehindRingHead (device : DeviceState) (number ring head : ℕ) : Type 0 where
  pub entity : ℕ
  pub may : MayBegin device ring entity number
  pub ahead : IsLeast device ring head
  pub before : GoesBefore device ahead.entity head entity number

-- the ring takes it next, and it counts more credits than are left
pub record LacksCredits (device : DeviceState) (number ring need free : ℕ) : Type 0 where
  pub next : IsLeast device ring number
  pub counts : need ≡ credits_of device ring number
  pub left : free ≡ free_credits device ring
  pub short : free < need

-- the ring takes it next, and it fits
pub record IsNext (device : DeviceState) (number ring : ℕ) : Type 0 where
  pub next : IsLeast device ring number
  pub fits : credits_of device ring number ≤ free_credits device ring

-- an earlier job that this one must follow, and that has no outcome
pub record IsGoing (journal : List JobRecord) (number : ℕ) (job : JobRecord) (fence : ℕ) (earlier : JobRecord) : Type 0 where
  pub before : fence < number
  pub at : slice_get journal fence ≡ Some earlier
  pub follows : IsTrue (must_follow job fence earlier)
  pub going : IsFalse (has_ended earlier.phase)

-- this is the least such job, or there is none
abbrev pub IsLeastGoing : List JobRecord → ℕ → JobRecord → Option ℕ → Type 0
IsLeastGoing journal number job None = (i : ℕ) (other : JobRecord) → IsGoing journal number job i other → ⊥
IsLeastGoing journal number job (Some fence) =
    ((earlier : JobRecord) × IsGoing journal number job fence earlier)
    × ((i : ℕ) (other : JobRecord) → i < fence → IsGoing journal number job i other → ⊥)

-- it is queued, and its entity is stopped
pub record IsOfStopped (device : DeviceState) (number : ℕ) (behind : Option ℕ) : Type 0 where
  pub job : JobRecord
  pub at : slice_get device.journal number ≡ Some job
  pub queued : IsTrue (is_queued job.phase)
  pub stopped : IsTrue (is_stopped device job.job.entity)
  pub least : IsLeastGoing device.journal number job behind

-- it is pending on the ring, behind the one that the ring runs, or behind the first one where it is complete itself
pub record IsPendingBehind (device : DeviceState) (number ring front : ℕ) : Type 0 where
  pub job : JobRecord
  pub at : slice_get device.journal number ≡ Some job
  pub scheduled : job.phase ≡ Scheduled
  pub on_ring : job.ring ≡ ring
  pub leads : (if is_complete job then head_of device ring else current_of device ring) ≡ Some front
  pub place : ℕ
  pub later : ℕ
  pub stands : slice_get (pending_of device ring) place ≡ Some front
  pub waits : slice_get (pending_of device ring) later ≡ Some number
  pub order : place < later

-- the ring runs it, and this is its next packet
pub record IsCurrentAt (device : DeviceState) (number ring packet : ℕ) (job : JobRecord) : Type 0 where
  pub current : current_of device ring ≡ Some number
  pub at : slice_get device.journal number ≡ Some job
  pub ran : packet ≡ job.ran

-- it is the first of the ring, and complete
pub record IsDone (device : DeviceState) (number ring : ℕ) : Type 0 where
  pub head : head_of device ring ≡ Some number
  pub job : JobRecord
  pub at : slice_get device.journal number ≡ Some job
  pub complete : IsTrue (is_complete job)

-- the job of this number has this reason
abbrev pub HasReason : DeviceState → ℕ → Reason → Type 0
HasReason device number reason.NotArmed = slice_get device.journal number ≡ None
HasReason device number (reason.BehindQueueHead head) = IsBehindQueueHead device number head
HasReason device number (reason.Waits fence how ring queued) = WaitsForFence device number fence how ring queued
HasReason device number (reason.BehindRingHead ring head) = IsBehindRingHead device number ring head
HasReason device number (reason.NoCredits ring need free) = LacksCredits device number ring need free
HasReason device number (reason.Next ring) = IsNext device number ring
HasReason device number (reason.Stopped behind) = IsOfStopped device number behind
HasReason device number (reason.Pending ring front) = IsPendingBehind device number ring front
HasReason device number (reason.Runs ring packet) = (job : JobRecord) × IsCurrentAt device number ring packet job × IsFalse (stalls job)
HasReason device number (reason.Stalls ring packet) = (job : JobRecord) × IsCurrentAt device number ring packet job × IsTrue (stalls job)
HasReason device number (reason.Complete ring) = IsDone device number ring
HasReason device number (reason.Ended outcome) =
    (job : JobRecord) × (slice_get device.journal number ≡ Some job) × (job.phase ≡ Ended outcome)
