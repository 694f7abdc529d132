-- What every core promises of its way: it is never stuck, and comes to an end.
use Rattle.std.specs.Prelude.{◌≡◌, ℕ, ◌+◌, ◌≤◌, Bool, false, IsTrue, IsFalse, if◌then◌else◌, List, [], ◌∷◌, None}
use Rattle.drm_types.specs.Limits.{spec_fault}
use Rattle.drm_types.specs.declared.spec.DeviceSpec.{DeviceSpec}
use Rattle.drm_job.specs.declared.Draft.{Draft}
use Rattle.drm_fence.specs.Phases.{has_ended}
use Rattle.drm_state.specs.declared.answer.Answer.{Answer}
use Rattle.drm_state.specs.declared.journal.JobRecord.{JobRecord}
use Rattle.drm_state.specs.State.{DeviceState}
use Rattle.drm_core.specs.declared.event.Event.{Event}
use Rattle.drm_core.specs.declared.event.Event.TheVariants as event
use Rattle.drm_core.specs.State.{CoreState, opened}
use Rattle.drm_core.specs.Names.{names_exist}
use Rattle.drm_core.specs.Run.{Run, AllNamesExist}
use Rattle.drm_core.specs.Headline.{IsArmed}
use Rattle.drm_progress.specs.Going.{Going, may_come, AskFewResets, FindsAllLate, all_work, all_left}

-- the event by which it comes at this moment
abbrev pub event_at : ℕ → Going → Event Draft
event_at now (Going.Pick ring) = event.Pick ring now
event_at now (Going.Step ring) = event.Step ring
event_at now (Going.Finish ring) = event.Finish ring now
event_at now (Going.Hang ring) = event.Timeout ring now
event_at now (Going.Reap entity) = event.Reap entity

-- whether the event lets a job of the device go on
abbrev pub lets_go_on : DeviceState → Event Draft → Bool
lets_go_on device (event.Pick ring now) = may_come device now (Going.Pick ring)
lets_go_on device (event.Step ring) = may_come device 0 (Going.Step ring)
lets_go_on device (event.Finish ring now) = may_come device now (Going.Finish ring)
lets_go_on device (event.Timeout ring now) = may_come device now (Going.Hang ring)
lets_go_on device (event.Reap entity) = may_come device 0 (Going.Reap entity)
lets_go_on device _ = false

-- how many events of a run let a job go on
abbrev pub goings : (old : CoreState) (events : List (Event Draft)) (answers : List Answer) (new : CoreState) → Run old events answers new → ℕ
goings old [] [] new run = 0
goings old [] (answer ∷ answers) new run = 0
goings old (event ∷ events) [] new run = 0
goings old (event ∷ events) (answer ∷ answers) new run =
    (if lets_go_on old.device event then 1 else 0) + goings run.0 events answers new run.2

-- what holds of a state that a run has led to, in which so many events let a job go on
pub record IsOnItsWay (state : CoreState) (count : ℕ) : Type 0 where
  -- while a job has no outcome, an event may come that lets a job go on
  pub never_stuck : (now fence : ℕ) (r : JobRecord) → AskFewResets state.device.journal → FindsAllLate state.device now → IsArmed state fence r
      → IsFalse (has_ended r.phase)
      → (going : Going) × IsTrue (names_exist state.device.spec (event_at now going)) × IsTrue (lets_go_on state.device (event_at now going))
  -- no more such events come than the armed jobs have work
  pub bounded : count + all_left state.device.journal ≤ all_work state.device.journal

-- so of every core, whatever events it has met since it was opened, and whatever it answered
abbrev pub EveryCoreGoesOn : Type 0
EveryCoreGoesOn =
    (spec : DeviceSpec) (events : List (Event Draft)) (answers : List Answer) (state : CoreState) → spec_fault spec ≡ None → AllNamesExist spec events
    → (run : Run (opened spec) events answers state) → IsOnItsWay state (goings (opened spec) events answers state run)
