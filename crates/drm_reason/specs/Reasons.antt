-- Why a job waits, or what it does: the one reason of each job of a device.
use Rattle.std.specs.Prelude.{ℕ, Bool, false, not, ◌&&◌, ◌||◌, ◌==◌, nat_lt, if◌then◌else◌, List, map, take, find, Option, option_map, unwrap_or, slice_get}
use Rattle.std.specs.Option.{option_map_or}
use Rattle.drm_types.specs.Firsts.{first, first_of}
use Rattle.drm_types.specs.declared.access.Access.{Access}
use Rattle.drm_job.specs.declared.Draft.{Draft}
use Rattle.drm_job.specs.Conflicts.{must_wait}
use Rattle.drm_fence.specs.declared.phase.Phase.{Phase}
use Rattle.drm_fence.specs.declared.phase.Phase.TheVariants.{Queued, Scheduled, Ended}
use Rattle.drm_fence.specs.Phases.{is_queued, has_ended}
use Rattle.drm_state.specs.declared.journal.JobRecord.{JobRecord}
use Rattle.drm_state.specs.State.{DeviceState}
use Rattle.drm_state.specs.Journal.{numbered, is_complete}
use Rattle.drm_state.specs.Order.{comes_after, is_met, dependencies}
use Rattle.drm_state.specs.Choice.{queue_of, choice}
use Rattle.drm_state.specs.Ring.{credits_of, free_credits, head_of, current_of, is_stopped}
use Rattle.drm_state.specs.Outcomes.{must_stall}
use Rattle.drm_reason.specs.declared.reason.How.{How}
use Rattle.drm_reason.specs.declared.reason.How.TheVariants as how
use Rattle.drm_reason.specs.declared.reason.Reason.{Reason}
use Rattle.drm_reason.specs.declared.reason.Reason.TheVariants as reason

-- ---- queued

-- at a buffer that the earlier job declares so, the first declaration of the later job that waits for it
abbrev pub clash_at : ℕ × Access → List (ℕ × Access) → Option How
clash_at d declared = option_map (λ e. how.Buffer d.0 d.1 e.1) (find (λ e. (d.0 == e.0) && must_wait d.1 e.1) declared)

-- so at the first such buffer of those that the earlier declares, else by the fence that the later job names
abbrev pub told_of : List (ℕ × Access) → List (ℕ × Access) → How
told_of earlier later = unwrap_or (first_of (map (λ d. clash_at d later) earlier)) how.Named

-- how an earlier job holds a later one up
abbrev pub how_of : Draft → Draft → How
how_of earlier later = told_of earlier.declared later.declared

-- of the fences that job j waits for and that are not met the least, with its record
abbrev pub least_unmet : List JobRecord → ℕ → JobRecord → Option (ℕ × JobRecord)
least_unmet journal j r = find (λ n. not (is_met r.ring n.1)) (dependencies journal j r.job)

-- it waits for this fence
abbrev pub unmet_reason : JobRecord → ℕ × JobRecord → Reason
unmet_reason r n = reason.Waits n.0 (how_of n.1.job r.job) n.1.ring (is_queued n.1.phase)

-- its ring takes it next: it waits for credits, or for the pick
abbrev pub fit_reason : DeviceState → ℕ → ℕ → Reason
fit_reason device ring number =
    if nat_lt (free_credits device ring) (credits_of device ring number)
    then reason.NoCredits ring (credits_of device ring number) (free_credits device ring)
    else reason.Next ring

-- it is ready, and its ring takes this job next
abbrev pub turn_reason : DeviceState → ℕ → ℕ → ℕ → Reason
turn_reason device ring number next = if next == number then fit_reason device ring number else reason.BehindRingHead ring next

abbrev pub ready_reason : DeviceState → ℕ → ℕ → Reason
ready_reason device ring number = turn_reason device ring number (unwrap_or (choice device ring) number)

-- it is the first in the queue of its entity
abbrev pub head_reason : DeviceState → ℕ → JobRecord → Reason
head_reason device number r =
    option_map_or (unmet_reason r) (least_unmet device.journal number r) (ready_reason device r.ring number)

-- the first number in the queue of an entity
abbrev pub queue_head : DeviceState → ℕ → Option ℕ
queue_head device entity = option_map (λ n. n.0) (first (queue_of entity device.journal))

-- this one is the first in the queue of its entity
abbrev pub line_reason : DeviceState → ℕ → JobRecord → ℕ → Reason
line_reason device number r head = if head == number then head_reason device number r else reason.BehindQueueHead head

-- whether a job must follow this earlier one: it comes after it, or is of the same entity
abbrev pub must_follow : JobRecord → ℕ → JobRecord → Bool
must_follow r number earlier = comes_after r.job number earlier.job || (earlier.job.entity == r.job.entity)

-- whether it must follow this one, and that has no outcome
abbrev pub is_going : JobRecord → ℕ × JobRecord → Bool
is_going r n = must_follow r n.0 n.1 && not (has_ended n.1.phase)

-- of the earlier jobs that job j must follow and that have no outcome the least
abbrev pub least_going : List JobRecord → ℕ → JobRecord → Option ℕ
least_going journal j r = option_map (λ n. n.0) (find (is_going r) (take j (numbered journal)))

abbrev pub queued_reason : DeviceState → ℕ → JobRecord → Reason
queued_reason device number r =
    if is_stopped device r.job.entity
    then reason.Stopped (least_going device.journal number r)
    else line_reason device number r (unwrap_or (queue_head device r.job.entity) number)

-- ---- pending

-- whether the next packet of the job waits for more resets
abbrev pub stalls : JobRecord → Bool
stalls r = option_map_or (λ packet. must_stall packet r.karma.resets) (slice_get r.job.packets r.ran) false

-- its ring runs it
abbrev pub packet_reason : JobRecord → Reason
packet_reason r = if stalls r then reason.Stalls r.ring r.ran else reason.Runs r.ring r.ran

-- it waits on its ring for the one in front, or has this reason where that is itself
abbrev pub front_reason : ℕ → ℕ → Option ℕ → Reason → Reason
front_reason ring number front itself =
    if unwrap_or front number == number then itself else reason.Pending ring (unwrap_or front number)

abbrev pub pending_reason : DeviceState → ℕ → JobRecord → Reason
pending_reason device number r =
    if is_complete r
    then front_reason r.ring number (head_of device r.ring) (reason.Complete r.ring)
    else front_reason r.ring number (current_of device r.ring) (packet_reason r)

-- ---- any job

abbrev pub phase_reason : DeviceState → ℕ → JobRecord → Phase → Reason
phase_reason device number r Queued = queued_reason device number r
phase_reason device number r Scheduled = pending_reason device number r
phase_reason device number r (Ended outcome) = reason.Ended outcome

-- the reason of the job of this number
unfoldable pub reason_of : DeviceState → ℕ → Reason
reason_of device number =
    option_map_or (λ r. phase_reason device number r r.phase) (slice_get device.journal number) reason.NotArmed
