-- The states of a submission.
use Rattle.std.specs.Prelude.{◌≡◌, ◌≢◌, ◌<◌, ◌⊎◌, ℕ, List, [], ◌∷◌, ◌++◌, None, Result, Ok, Err, length, map}
use Rattle.atomic_table.specs.Seated.{TableId}
use Rattle.ww_lock.specs.declared.acquire.Acquire.{Acquire}
use Rattle.ww_lock.specs.declared.locks.TryLockError.{TryLockError}
use Rattle.ww_lock.specs.declared.locks.TryLockError.TheVariants.{Sealed, Already, Older, Younger}
use Rattle.ww_lock.specs.declared.locks.LockError.{LockError}
use Rattle.ww_lock.specs.declared.locks.LockError.TheVariants.{Backoff}
use Rattle.ww_lock.specs.declared.locks.LockError.TheVariants as lock
use Rattle.ww_lock.specs.Acquiring.{HasTicket, view}
use Rattle.ww_lock.specs.Held.{Lacks}
use Rattle.ww_lock.specs.Rule.{In}
use Rattle.ww_lock.specs.Steps.{number_of}
use Rattle.drm_job.specs.declared.Draft.{Draft}
use Rattle.drm_resv.specs.Reservation.{Reservation, WithRoom}
use Rattle.drm_state.specs.Plans.{DepsCover}
use Rattle.drm_state.specs.Held.{kept_of, armed_held, AllFit}
use Rattle.drm_state.specs.Reservation.{Fits}
use Rattle.drm_sched.specs.Calls as device
use Rattle.drm_sched.specs.Marks.{MarkedDevice, Task}
use Rattle.drm_gpu.specs.Passes.{GpuState, PassState, Seated, pass_of, word_shown}
use Rattle.drm_gpu.specs.Rounds.{Declares, IsGivenUp, IsRound, Lock, Round, TakesAll, all_claims, all_met, buffers_of, claims_of, held_after, holders_of, met_last, met_of}
pub use Rattle.drm_sched.specs.Calls.{ArmRefused}

-- a submission: its pass, its ticket, its job, and what it holds
pub record Submission : Type 0 where
  pub pass : PassState
  pub ticket : ℕ
  pub job : Draft
  pub held : List (ℕ × Reservation)

abbrev pub DeviceAcquire : Type 0
DeviceAcquire = Acquire MarkedDevice WithRoom Task

abbrev pub submission_of : TableId → Draft → DeviceAcquire → Submission
submission_of home job a = record { pass = pass_of home (view a); ticket = a.ticket; job = job; held = kept_of a.seat.held.items }

-- a ticket above each that the pass knows of
abbrev pub IsNewTicket : PassState → ℕ → Type 0
IsNewTicket pass ticket = ((t : ℕ) → In t pass.drew → t < ticket) × ((b t : ℕ) → In (b, t) pass.had → t < ticket) × ((b h : ℕ) → In (b, h) pass.met → h < ticket)

-- the pass has drawn this ticket, and nothing else of it has changed
abbrev pub draws : ℕ → PassState → PassState
draws ticket pass = record pass { drew = pass.drew ++ ticket ∷ [] }

-- the pass has claimed this buffer under the ticket, behind tries that found these holders, and nothing else of it
-- has changed
abbrev pub claims_one : ℕ → ℕ → List ℕ → PassState → PassState
claims_one ticket b waited pass = record pass { had = pass.had ++ (b, ticket) ∷ []; met = pass.met ++ holders_of b waited }

-- each buffer that is held is declared by the job, or was held before
abbrev pub HoldsNoMore : {A : Type 0} → Draft → List (ℕ × A) → List (ℕ × A) → Type 0
HoldsNoMore {A} job old new = (b : ℕ) (x : A) → In (b, x) new → Declares job b ⊎ ((y : A) × In (b, y) old)

-- a caller that holds values of the device by its ticket, and waits for no packet
pub record Holding (gpu : GpuState) (a : DeviceAcquire) : Type 0 where
  pub seat : Seated gpu a.seat
  pub own : HasTicket gpu.home a
  pub idle : (view a).task ≡ None

-- the buffers that a caller holds
abbrev pub numbers_of : DeviceAcquire → List ℕ
numbers_of a = map number_of a.seat.held.items

-- a caller that has taken these locks more, in one round
pub record LocksOn (gpu : GpuState) (job : Draft) (a a' : DeviceAcquire) : Type 0 where
  pub locks : List Lock
  pub holding : Holding gpu a'
  pub ticket : a'.ticket ≡ a.ticket
  pub sealed : a'.sealed ≡ a.sealed
  pub round : IsRound job a.ticket (numbers_of a) locks
  pub held : numbers_of a' ≡ numbers_of a ++ buffers_of locks
  pub had : (pass_of gpu.home (view a')) ≡ record (pass_of gpu.home (view a)) { had = (view a).lock.had ++ claims_of a.ticket locks; met = (view a).lock.met ++ met_of locks }

-- one that has taken some, and is told to back off from buffer b
pub record BacksOff (gpu : GpuState) (job : Draft) (b : ℕ) (a a' : DeviceAcquire) : Type 0 where
  pub given : Round
  pub contended : given.contended ≡ b
  pub holding : Holding gpu a'
  pub ticket : a'.ticket ≡ a.ticket
  pub sealed : a'.sealed ≡ a.sealed
  pub round : IsRound job a.ticket (numbers_of a) given.locks
  pub up : IsGivenUp job a.ticket (numbers_of a ++ buffers_of given.locks) given
  pub had : (pass_of gpu.home (view a')) ≡ record (pass_of gpu.home (view a)) { had = (view a).lock.had ++ claims_of a.ticket given.locks; met = (view a).lock.met ++ (met_of given.locks ++ met_last given) }

-- one that held nothing, and has taken buffer b
pub record LocksFirst (gpu : GpuState) (b : ℕ) (a a' : DeviceAcquire) : Type 0 where
  pub waited : List ℕ
  pub holding : Holding gpu a'
  pub ticket : a'.ticket ≡ a.ticket
  pub sealed : a'.sealed ≡ a.sealed
  pub held : (x : WithRoom) × (a'.seat.held.items ≡ (b, x) ∷ [])
  pub had : pass_of gpu.home (view a') ≡ claims_one a.ticket b waited (pass_of gpu.home (view a))

-- one that has taken locks in rounds
pub record HasTaken (gpu : GpuState) (job : Draft) (a a' : DeviceAcquire) : Type 0 where
  pub rounds : List Round
  pub last : List Lock
  pub holding : Holding gpu a'
  pub ticket : a'.ticket ≡ a.ticket
  pub sealed : a'.sealed ≡ a.sealed
  pub takes : TakesAll job a.ticket (numbers_of a) rounds last
  pub held : numbers_of a' ≡ held_after (numbers_of a) rounds last
  pub had : (pass_of gpu.home (view a')) ≡ record (pass_of gpu.home (view a)) { had = (view a).lock.had ++ all_claims a.ticket rounds last; met = (view a).lock.met ++ all_met rounds last }

-- what fitted fits at each buffer that is not held, and one fence comes to show this word
pub record KeepsOthers (held : List (ℕ × Reservation)) (fence shown : ℕ) (old new : MarkedDevice) : Type 0 where
  pub place : fence < old.state.spec.max_jobs
  pub fits : (b : ℕ) (x : Reservation) → ((y : Reservation) → In (b, y) held → ⊥) → Fits b old.state.journal x → Fits b new.state.journal x
  pub word : word_shown new fence ≡ shown
  pub words : (f : ℕ) → f ≢ fence → word_shown new f ≡ word_shown old f

-- what a try to lock a buffer answers, and what is so after it
abbrev pub TriesLock : ℕ → Submission → Submission → Result (Unit {0}) TryLockError → Type 0
TriesLock b old new (Ok u) =
    Lacks b old.held × ((x : Reservation) × (new ≡ record old { held = old.held ++ (b, x) ∷ []; pass = record old.pass { had = old.pass.had ++ (b, old.ticket) ∷ [] } }))
TriesLock b old new (Err Sealed) = ⊥
TriesLock b old new (Err Already) = ((x : Reservation) × In (b, x) old.held) × (new ≡ old)
TriesLock b old new (Err (Older h)) = Lacks b old.held × (h < old.ticket) × (new ≡ record old { pass = record old.pass { met = old.pass.met ++ (b, h) ∷ [] } })
TriesLock b old new (Err (Younger h)) = Lacks b old.held × (old.ticket < h) × (new ≡ record old { pass = record old.pass { met = old.pass.met ++ (b, h) ∷ [] } })

-- each of the tries was for buffer b and let the caller wait: it holds nothing, or the holder that the try found is
-- younger
abbrev pub MayWait : ℕ → Submission → List (ℕ × ℕ) → Type 0
MayWait b s ms = (c h : ℕ) → In (c, h) ms → (c ≡ b) × (0 < length s.held → s.ticket < h)

-- after some tries that failed and let the caller wait, the buffer was claimed
abbrev pub Claims : ℕ → Submission → Submission → Type 0
Claims b old new =
    Lacks b old.held × ((x : Reservation) × (ms : List (ℕ × ℕ)) × MayWait b old ms × (new ≡ record old {
      held = old.held ++ (b, x) ∷ [];
      pass = record old.pass { had = old.pass.had ++ (b, old.ticket) ∷ []; met = old.pass.met ++ ms };
    }))

-- what a lock of a buffer answers, and what is so after it. Who backs off does so for the last try of this call
abbrev pub Locks : ℕ → Submission → Submission → Result (Unit {0}) LockError → Type 0
Locks b old new (Ok u) = Claims b old new
Locks b old new (Err lock.Sealed) = ⊥
Locks b old new (Err lock.Already) = ((x : Reservation) × In (b, x) old.held) × (new ≡ old)
Locks b old new (Err (Backoff h)) =
    Lacks b old.held × (h < old.ticket) × (0 < length old.held)
    × ((ms : List (ℕ × ℕ)) × MayWait b old ms × (new ≡ record old { pass = record old.pass { met = old.pass.met ++ (ms ++ (b, h) ∷ []) } }))

-- the submission has taken its locks in rounds, with its job and its ticket. What the pass has claimed and met more
-- is what the rounds claimed and met, and what is held is what was not given back
pub record LocksAll (old new : Submission) : Type 0 where
  pub rounds : List Round
  pub last : List Lock
  pub job : new.job ≡ old.job
  pub ticket : new.ticket ≡ old.ticket
  pub takes : TakesAll old.job old.ticket (map number_of old.held) rounds last
  pub held : map number_of new.held ≡ held_after (map number_of old.held) rounds last
  pub pass : new.pass ≡ record old.pass { had = old.pass.had ++ all_claims old.ticket rounds last; met = old.pass.met ++ all_met rounds last }

-- what an arming that answered this fence found and left. What was planned covers the device that was found
pub record ArmIs (job : Draft) (deps : List (ℕ × ℕ)) (old new : List (ℕ × Reservation)) (fence : ℕ)
    (d e : MarkedDevice) : Type 0 where
  pub call : device.ArmIs job fence d e
  pub covers : DepsCover d.state job deps
  pub fit : AllFit d.state.journal old
  pub held : new ≡ armed_held d.state.journal job old

-- a submission that knows what its job waits for
pub record PlannedSubmission : Type 0 where
  pub submission : Submission
  pub deps : List (ℕ × ℕ)

-- one that is armed, under this number
pub record ArmedSubmission : Type 0 where
  pub pass : PassState
  pub held : List (ℕ × Reservation)
  pub fence : ℕ
