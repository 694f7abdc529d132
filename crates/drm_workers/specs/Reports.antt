-- What a run reports.
use Rattle.std.specs.Prelude.{◌≡◌, ◌≢◌, ◌==◌, ◌<◌, ℕ, List, [], ◌∷◌, ◌++◌, IsTrue, false, length, Some, slice_get, All, IsPermutation}
use Rattle.std.specs.List.{filter}
use Rattle.drm_types.specs.declared.spec.DeviceSpec.{DeviceSpec}
use Rattle.drm_job.specs.declared.Draft.{Draft}
use Rattle.drm_serial.specs.Serial.{serial}
use Rattle.drm_types.specs.declared.outcome.Outcome.TheVariants.{Stopped}
use Rattle.drm_fence.specs.declared.phase.Phase.TheVariants.{Ended}
use Rattle.drm_fence.specs.Phases.{has_ended}
use Rattle.drm_resv.specs.Reservation.{WithRoom}
use Rattle.drm_state.specs.declared.journal.JobRecord.{JobRecord}
use Rattle.drm_state.specs.Journal.{turns}
use Rattle.drm_state.specs.Lawful.{IsSound}
use Rattle.drm_state.specs.Reservation.{Fits}
use Rattle.ww_lock.specs.Lifetime.{FitsAll}
use Rattle.ww_lock.specs.Parts.{IsWhole}
use Rattle.drm_gpu.specs.declared.gpu.Closed.{Closed}
use Rattle.drm_gpu.specs.Closing.{Leaves}
use Rattle.drm_gpu.specs.Passes.{PassState}
use Rattle.drm_workers.specs.declared.report.Report.{Report}
use Rattle.drm_workers.specs.Numbers.{IsOrdered, armings}
use Rattle.drm_workers.specs.Jobs.{AreJobsOf, numbers_from}
use Rattle.drm_workers.specs.Shares.{share_of}

-- how many records are of the ring
abbrev pub records_of : ℕ → List JobRecord → ℕ
records_of ring records = length (filter (λ r. r.ring == ring) records)

-- for each ring, how many records are of it
abbrev pub AreCounts : ℕ → List JobRecord → List ℕ → Type 0
AreCounts rings records counts = (length counts ≡ rings) × ((ring k : ℕ) → slice_get counts ring ≡ Some k → k ≡ records_of ring records)

-- all items of the lists
abbrev pub all_items : {A V : Type 0} → (V → List A) → List V → List A
all_items items [] = []
all_items items (v ∷ vs) = items v ++ all_items items vs

-- there is a list of each of n submitters, and its numbers are those of the submitter's jobs, in their order
abbrev pub AreInOrder : {V : Type 0} → (V → List ℕ) → List JobRecord → ℕ → List Draft → List V → Type 0
AreInOrder items records n jobs armed =
    (length armed ≡ n) × ((s : ℕ) (v : _) → slice_get armed s ≡ Some v → AreJobsOf records (items v) (share_of n s jobs))

-- each job of each submitter was armed, and no number but these
pub record AreArmed {V : Type 0} (items : V → List ℕ) (records : List JobRecord) (n : ℕ) (jobs : List Draft) (armed : List V) : Type 0 where
  pub order : AreInOrder items records n jobs armed
  pub numbers : IsPermutation (numbers_from 0 records) (all_items items armed)

-- so many jobs were armed, each has its outcome and none was stopped before it ran, and these are the numbers of
-- picks and finishes that they take on each ring
pub record IsComplete (jobs : ℕ) (closed : Closed) (picks finishes : List ℕ) : Type 0 where
  pub count : length closed.records ≡ jobs
  pub ended : All (λ r. IsTrue (has_ended r.phase)) closed.records
  pub run : All (λ r. r.phase ≢ Ended Stopped) closed.records
  pub picked : AreCounts (length closed.spec.rings) closed.records picks
  pub finished : AreCounts (length closed.spec.rings) closed.records finishes

-- what a pass that was joined of all workers' tells of a device that was taken apart with it: the device had this
-- description, and the numbers that the pass has armed are those that the submitters note, each for its jobs in their
-- order
pub record HasRun {V : Type 0} (items : V → List ℕ) (spec : DeviceSpec) (jobs : List Draft) (n : ℕ) (closed : Closed) (armed : List V) : Type 0 where
  pub pass : PassState
  pub leaves : Leaves pass closed
  pub whole : IsWhole pass.part
  pub described : pass.gpu.spec ≡ spec
  pub ordered : IsOrdered pass
  pub submitters : 0 < n
  pub armings : IsPermutation (armings pass.calls) (all_items items armed)
  pub order : AreInOrder items pass.last.state.journal n jobs armed

-- this is what `close` left of a device of this description, by a pass that had taken in all others
pub record WasClosed (spec : DeviceSpec) (closed : Closed) : Type 0 where
  pub pass : PassState
  pub leaves : Leaves pass closed
  pub whole : IsWhole pass.part
  pub described : pass.gpu.spec ≡ spec

-- a run of these jobs by n submitters on a device of this description is told
pub record IsReport (spec : DeviceSpec) (jobs : List Draft) (n : ℕ) (r : Report) : Type 0 where
  -- the device was closed, whole, and the buffers are those that the records' jobs leave, one after another in arming
  -- order, each with the packets that it has run
  pub closed : WasClosed spec r.closed
  pub device : r.closed.spec ≡ spec
  pub bytes : r.closed.buffers.bytes ≡ serial spec.buffers (turns r.closed.records)
  pub inside : (b : ℕ) → b < length spec.buffers → slice_get r.closed.buffers.out b ≡ Some false
  -- each buffer has its reservation there, and it fits
  pub places : length r.closed.resvs.items ≡ length spec.buffers
  pub all : (b : ℕ) → b < length r.closed.resvs.items → (x : WithRoom) × (slice_get r.closed.resvs.items b ≡ Some (Some x))
  pub fit : FitsAll (λ b (x : WithRoom). Fits b r.closed.records x.kept) 0 r.closed.resvs.items
  -- each job was armed once, under the number that its submitter tells in its place, and has its outcome
  pub sound : All (IsSound spec) r.closed.records
  pub armed : AreArmed (λ v. v.items) r.closed.records n jobs r.armed.items
  -- so many records as jobs, all ended, and each ring was given its records and has finished them
  pub complete : IsComplete (length jobs) r.closed r.picked.items r.finished.items
