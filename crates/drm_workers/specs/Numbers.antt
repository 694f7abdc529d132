-- The numbers that calls of the shared device have armed.
use Rattle.std.specs.Prelude.{◌≡◌, ◌<◌, ◌≤◌, ◌+◌, nat_lt, ℕ, List, [], ◌∷◌, ◌++◌, if◌then◌else◌, length, All, IsPermutation, Result}
use Rattle.drm_job.specs.declared.Draft.{Draft}
use Rattle.ww_lock.specs.Rule.{In}
use Rattle.ww_lock.specs.Steps.{IsChain}
use Rattle.drm_sched.specs.Marks.{MarkedDevice}
use Rattle.drm_resv.specs.Reservation.{Reservation}
use Rattle.drm_state.specs.declared.answer.Picked.{Picked}
use Rattle.drm_state.specs.declared.answer.Stepped.{Stepped}
use Rattle.drm_state.specs.declared.answer.Finished.{Finished}
use Rattle.drm_state.specs.declared.answer.Expired.{Expired}
use Rattle.drm_state.specs.declared.errors.ArmError.{ArmError}
use Rattle.drm_state.specs.declared.errors.CancelError.{CancelError}
use Rattle.drm_state.specs.declared.errors.FinishError.{FinishError}
use Rattle.drm_state.specs.declared.errors.PickError.{PickError}
use Rattle.drm_state.specs.declared.errors.ReapError.{ReapError}
use Rattle.drm_state.specs.declared.errors.StepError.{StepError}
use Rattle.drm_gpu.specs.Passes.{PassState, Calls, GrowsTo, IsJoinedOf}
use Rattle.drm_gpu.specs.Answers.{PickIs, StepIs, FinishIs, TimeoutIs, CancelIs, ReapIs, CountsAre}
use Rattle.drm_gpu.specs.Submissions.{ArmIs, ArmRefused}
use Rattle.drm_workers.specs.Jobs.{JobAt, AreJobsOf}

-- the number that a call has armed, if it has: it found so many records, and left more
abbrev pub armed_by : MarkedDevice × MarkedDevice → List ℕ
armed_by call = if nat_lt (length call.0.state.journal) (length call.1.state.journal) then length call.0.state.journal ∷ [] else []

-- the numbers that calls have armed, in order
abbrev pub armings : List (MarkedDevice × MarkedDevice) → List ℕ
armings [] = []
armings (call ∷ calls) = armed_by call ++ armings calls

-- each is at least low and above those before it
abbrev pub IsRising : ℕ → List ℕ → Type 0
IsRising low [] = Unit {0}
IsRising low (n ∷ ns) = (low ≤ n) × IsRising (n + 1) ns

-- the calls of a pass were each left before the next was found, and the last device grew from what each left
pub record IsOrdered (pass : PassState) : Type 0 where
  pub chain : IsChain GrowsTo pass.calls
  pub lefts : (call : MarkedDevice × MarkedDevice) → In call pass.calls → GrowsTo call.1 pass.last

-- the numbers that a pass has armed rise, and are those of records of the device that it saw last
abbrev pub ArmingsRise : Type 0
ArmingsRise = (pass : PassState) → IsOrdered pass → IsRising 0 (armings pass.calls) × All (λ n. n < length pass.last.state.journal) (armings pass.calls)

-- a pass that was joined has armed what both have armed
abbrev pub JoinedArmings : Type 0
JoinedArmings = (one other new : PassState) → IsJoinedOf one other new → IsOrdered new × IsPermutation (armings one.calls ++ armings other.calls) (armings new.calls)

-- the jobs of numbers are those of the same numbers later
abbrev pub ArmedJobsStay : Type 0
ArmedJobsStay = (old new : MarkedDevice) → GrowsTo old new → (numbers : List ℕ) (jobs : List Draft)
    → AreJobsOf old.state.journal numbers jobs → AreJobsOf new.state.journal numbers jobs

-- a call of this kind arms nothing
abbrev pub ArmsNothing : (MarkedDevice → MarkedDevice → Type 0) → Type 0
ArmsNothing does = (old new : PassState) → Calls does old new → armings new.calls ≡ armings old.calls

-- an arming that answered this fence arms that number, whose record is that of the job
abbrev pub ArmsTheFence : Type 0
ArmsTheFence = (job : Draft) (deps : List (ℕ × ℕ)) (held kept : List (ℕ × Reservation)) (fence : ℕ) (old new : PassState) → Calls (ArmIs job deps held kept fence) old new
    → (armings new.calls ≡ armings old.calls ++ fence ∷ []) × JobAt new.last.state.journal fence job

-- of the calls by which a pass submits to the device and drives it only armings arm
pub record OnlyArmingsArm : Type 0 where
  pub arm : ArmsTheFence
  pub refused : (job : Draft) (r : ArmError) → ArmsNothing (ArmRefused job r)
  pub pick : (ring now : ℕ) (answer : Result Picked PickError) → ArmsNothing (PickIs ring now answer)
  pub step : (ring : ℕ) (answer : Result Stepped StepError) → ArmsNothing (StepIs ring answer)
  pub finish : (ring now : ℕ) (answer : Result Finished FinishError) → ArmsNothing (FinishIs ring now answer)
  pub timeout : (ring now : ℕ) (answer : Expired) → ArmsNothing (TimeoutIs ring now answer)
  pub cancel : (entity : ℕ) (answer : Result (Unit {0}) CancelError) → ArmsNothing (CancelIs entity answer)
  pub reap : (entity : ℕ) (answer : Result ℕ ReapError) → ArmsNothing (ReapIs entity answer)
  pub counts : (counts : ℕ × ℕ) → ArmsNothing (CountsAre counts)
