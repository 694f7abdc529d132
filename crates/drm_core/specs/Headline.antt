-- What the core promises, whatever happens to it and in whatever order.
use Rattle.std.specs.Prelude.{◌≡◌, ℕ, ◌<◌, ◌≤◌, Bool, IsTrue, IsFalse, ◌⊎◌, List, length, Some, ℤ, pos, negsuc, slice_get}
use Rattle.drm_types.specs.declared.spec.DeviceSpec.{DeviceSpec}
use Rattle.drm_types.specs.declared.spec.RingSpec.{RingSpec}
use Rattle.drm_buffer.specs.Memory.{bytes_of}
use Rattle.drm_job.specs.declared.Draft.{Draft}
use Rattle.drm_job.specs.Fault.{IsJob}
use Rattle.drm_serial.specs.Serial.{serial}
use Rattle.drm_fence.specs.Phases.{is_queued, has_ended, status_of}
use Rattle.drm_state.specs.declared.answer.Answer.{Answer}
use Rattle.drm_state.specs.declared.answer.Answer.TheVariants as answer
use Rattle.drm_core.specs.declared.event.Event.{Event}
use Rattle.drm_core.specs.declared.event.Event.TheVariants as event
use Rattle.drm_state.specs.declared.answer.Refusal.{Refusal}
use Rattle.drm_state.specs.declared.answer.Refusal.TheVariants.{Memory, Idle}
use Rattle.drm_state.specs.declared.journal.JobRecord.{JobRecord}
use Rattle.drm_core.specs.State.{CoreState, opened}
use Rattle.drm_state.specs.Journal.{turns, is_over}
use Rattle.drm_state.specs.Order.{comes_after, HasPlace}
use Rattle.drm_state.specs.Ring.{used_credits}
use Rattle.drm_state.specs.Chosen.{IsLeast, NoneMayBegin}
use Rattle.drm_core.specs.Context.{holds}
use Rattle.drm_core.specs.Names.{names_exist}
use Rattle.drm_core.specs.Refusals.{plan_of}
use Rattle.drm_core.specs.Step.{Step}
use Rattle.drm_core.specs.Run.{Run, AllNamesExist}
use Rattle.drm_state.specs.Writers.{is_writer, HaveEnded}

-- the memory of the machine that runs the armed jobs one after another in arming order, each with the packets that it
-- has run
abbrev pub serial_memory : DeviceSpec → CoreState → List (List ℕ)
serial_memory spec state = serial spec.buffers (turns state.device.journal)

-- a buffer's bytes in that memory
abbrev pub serial_bytes : DeviceSpec → CoreState → ℕ → List ℕ
serial_bytes spec state buffer = bytes_of (serial_memory spec state) buffer

-- the job of this fence is armed, and stands so
abbrev pub IsArmed : CoreState → ℕ → JobRecord → Type 0
IsArmed state fence job = slice_get state.device.journal fence ≡ Some job

-- two armed jobs, of which the first was armed earlier
pub record AreArmed (state : CoreState) (fence : ℕ) (earlier : JobRecord) (other : ℕ) (later : JobRecord) : Type 0 where
  pub order : fence < other
  pub first : IsArmed state fence earlier
  pub second : IsArmed state other later

abbrev pub WritersEnded : CoreState → ℕ → Type 0
WritersEnded state buffer = HaveEnded buffer state.device.journal

-- a context may read a buffer: it holds it, and every armed job that writes it has its outcome
pub record MayRead (state : CoreState) (ctx buffer : ℕ) : Type 0 where
  pub holds : IsTrue (holds state ctx buffer)
  pub writers : WritersEnded state buffer

-- with this event the context gives up reading the buffer: it drops it, or arms a job that writes it
abbrev pub GivesUp : CoreState → ℕ → ℕ → Event Draft → Type 0
GivesUp state ctx buffer further =
    (further ≡ event.Drop ctx buffer)
    ⊎ ((further ≡ event.Arm ctx) × ((job : Draft) × (plan_of state ctx ≡ Some job) × IsTrue (is_writer job buffer)))

-- the answer is a refusal
abbrev pub IsRefused : Answer → Type 0
IsRefused given = (why : Refusal) × (given ≡ answer.Refused why)

-- what a fence's status tells of its job: 0 no outcome yet, 1 run to its end, -125 (ECANCELED) cut short, -3 (ESRCH)
-- never run
pub record TellsOutcome (r : JobRecord) : Type 0 where
  pub waiting : IsFalse (has_ended r.phase) → status_of r.phase ≡ pos 0
  pub ended : IsTrue (has_ended r.phase) → (status_of r.phase ≡ pos 1) ⊎ (status_of r.phase ≡ negsuc 124) ⊎ (status_of r.phase ≡ negsuc 2)
  pub good : status_of r.phase ≡ pos 1 → (r.ran ≡ length r.job.packets) × IsFalse r.is_skipped
  pub cancelled : status_of r.phase ≡ negsuc 124 → IsTrue r.is_skipped
  pub stopped : status_of r.phase ≡ negsuc 2 → r.ran ≡ 0

-- the device takes the job under this number, and the job has run no more packets than it has
pub record IsTaken (spec : DeviceSpec) (number : ℕ) (r : JobRecord) : Type 0 where
  pub job : IsJob spec r.job
  pub place : HasPlace spec number r.job
  pub ran : r.ran ≤ length r.job.packets

-- a job stays what it was, its outcome stays, and with an outcome or a skipped mark it runs no packet more
pub record StaysFinal (old new : JobRecord) : Type 0 where
  pub job : new.job ≡ old.job
  pub outcome : IsTrue (has_ended old.phase) → new.phase ≡ old.phase
  pub ran : IsTrue old.is_skipped ⊎ IsTrue (has_ended old.phase) → new.ran ≡ old.ran

-- what holds of a state that a run has led to, and of what one event more may answer there
pub record Promises (spec : DeviceSpec) (state : CoreState) : Type 0 where
  -- memory is that of the machine that runs the armed jobs one after another
  pub bytes : state.device.memory ≡ serial_memory spec state
  -- a dump gives that machine's bytes, unless there is no memory for them
  pub dumps : (buffer : ℕ) (given : Answer) (next : CoreState) → Step state (event.Dump buffer) given next
      → (given ≡ answer.Refused Memory) ⊎ (given ≡ answer.Bytes (serial_bytes spec state buffer))
  -- a read that is not refused gives that machine's bytes
  pub reads : (ctx buffer : ℕ) (given : Answer) (next : CoreState) → Step state (event.Read ctx buffer) given next
      → IsRefused given ⊎ (given ≡ answer.Bytes (serial_bytes spec state buffer))
  -- a read is given only to the context that holds the buffer, and only after every armed writer of it
  pub reads_wait : (ctx buffer : ℕ) (bytes : List ℕ) (next : CoreState) → IsTrue (names_exist {J = Draft} spec (event.Read ctx buffer))
      → Step state (event.Read ctx buffer) (answer.Bytes bytes) next → MayRead state ctx buffer
  -- and there it is refused for want of memory alone
  pub reads_given : (ctx buffer : ℕ) (given : Answer) (next : CoreState) → IsTrue (names_exist {J = Draft} spec (event.Read ctx buffer))
      → Step state (event.Read ctx buffer) given next → MayRead state ctx buffer
      → (given ≡ answer.Refused Memory) ⊎ (given ≡ answer.Bytes (serial_bytes spec state buffer))
  -- a status is that of the armed job's fence
  pub statuses : (fence : ℕ) (status : ℤ) (next : CoreState) → Step state (event.Status fence) (answer.Status status) next
      → (r : JobRecord) × IsArmed state fence r × (status ≡ status_of r.phase)
  -- an armed job is one that the device takes, behind all jobs whose fences it names
  pub jobs : (fence : ℕ) (r : JobRecord) → IsArmed state fence r → IsTaken spec fence r
  -- and its status tells the right outcome
  pub outcomes : (fence : ℕ) (r : JobRecord) → IsArmed state fence r → TellsOutcome r
  -- a job has its outcome after each earlier job that conflicts with it or whose fence it names
  pub fence_order : (i j : ℕ) (earlier later : JobRecord) → AreArmed state i earlier j later → IsTrue (comes_after later.job i earlier.job)
      → IsTrue (has_ended later.phase) → IsTrue (has_ended earlier.phase)
  -- a job that has run a packet comes after such jobs that run no packet more
  pub packet_order : (i j : ℕ) (earlier later : JobRecord) → AreArmed state i earlier j later → IsTrue (comes_after later.job i earlier.job)
      → 0 < later.ran → IsTrue (is_over earlier)
  -- across a further event a fence's outcome stays, and so do the packets of a job that has one or is skipped
  pub fences_final : (further : Event Draft) (given : Answer) (next : CoreState) → IsTrue (names_exist spec further) → Step state further given next
      → (fence : ℕ) (old : JobRecord) → IsArmed state fence old → (new : JobRecord) × IsArmed next fence new × StaysFinal old new
  -- a ring's pending jobs count no more credits than its limit
  pub credits : (ring : ℕ) (limits : RingSpec) → slice_get spec.rings ring ≡ Some limits → used_credits state.device ring ≤ limits.credit_limit
  -- a pick gives the ring the least of all jobs that may begin on it, by the priority of the entity and then by the
  -- number
  pub picks : (ring now fence : ℕ) (skipped : Bool) (next : CoreState) → Step state (event.Pick ring now) (answer.Picked fence skipped) next
      → IsLeast state.device ring fence
  -- and finds the ring idle only where no job may begin on it
  pub idles : (ring now : ℕ) (next : CoreState) → Step state (event.Pick ring now) (answer.Refused Idle) next → NoneMayBegin state.device ring
  -- the jobs of an entity begin in arming order
  pub begin_order : (i j : ℕ) (earlier later : JobRecord) → AreArmed state i earlier j later → earlier.job.entity ≡ later.job.entity
      → IsFalse (is_queued later.phase) → IsFalse (is_queued earlier.phase)
  -- and end in arming order
  pub end_order : (i j : ℕ) (earlier later : JobRecord) → AreArmed state i earlier j later → earlier.job.entity ≡ later.job.entity
      → IsTrue (has_ended later.phase) → IsTrue (has_ended earlier.phase)
  -- an event that is refused changes nothing
  pub refusals : (further : Event Draft) (why : Refusal) (next : CoreState) → Step state further (answer.Refused why) next → next ≡ state
  -- what a context may read it may read on, whatever happens, until it gives it up itself
  pub reads_stay : (further : Event Draft) (given : Answer) (next : CoreState) (ctx buffer : ℕ) → IsTrue (names_exist spec further)
      → Step state further given next → MayRead state ctx buffer → (GivesUp state ctx buffer further → ⊥) → MayRead next ctx buffer
  -- and finds the same bytes: while every armed writer of a buffer has its outcome, no event changes the buffer's bytes
  pub bytes_stay : (further : Event Draft) (given : Answer) (next : CoreState) (buffer : ℕ) → IsTrue (names_exist spec further)
      → Step state further given next → WritersEnded state buffer → serial_bytes spec next buffer ≡ serial_bytes spec state buffer

-- whatever events a core has met since it was opened, and whatever it answered, it keeps its promises
abbrev pub Headline : Type 0
Headline =
    (spec : DeviceSpec) (events : List (Event Draft)) (answers : List Answer) (state : CoreState) → AllNamesExist spec events
    → Run (opened spec) events answers state → Promises spec state
