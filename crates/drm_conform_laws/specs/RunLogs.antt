-- The log of a run of the core: what its events and answers tell of jobs, line by line.
use Rattle.std.specs.Prelude.{ℕ, false, ◌+◌, List, [], ◌∷◌, map, flat_map, zip, Option, Some, None, slice_get}
use Rattle.drm_types.specs.declared.spec.DeviceSpec.{DeviceSpec}
use Rattle.drm_job.specs.declared.Draft.{Draft}
use Rattle.drm_trace.specs.declared.event.Event.{Event as Line}
use Rattle.drm_trace.specs.declared.event.Place.{Place}
use Rattle.drm_trace.specs.declared.event.What.{What}
use Rattle.drm_trace.specs.declared.event.What.TheVariants as does
use Rattle.drm_rules.specs.declared.rules.Demands.{Demands}
use Rattle.drm_rules.specs.Conforms.{Conforms}
use Rattle.drm_state.specs.declared.answer.Answer.{Answer}
use Rattle.drm_state.specs.declared.answer.Answer.TheVariants as answer
use Rattle.drm_state.specs.declared.journal.JobRecord.{JobRecord}
use Rattle.drm_state.specs.Order.{dependencies}
use Rattle.drm_core.specs.declared.event.Event.{Event}
use Rattle.drm_core.specs.declared.event.Event.TheVariants as event
use Rattle.drm_core.specs.Run.{AllNamesExist, Run}
use Rattle.drm_core.specs.State.{CoreState, opened}

-- a job of a ring, by its number and its entity
abbrev pub place_of : JobRecord → ℕ → ℕ → Place
place_of r fence ring = record { entity = r.job.entity; number = fence; ring = ring }

-- a job is queued, and waits for each earlier job that it comes after
abbrev pub queued_lines : List JobRecord → ℕ → Option JobRecord → List (ℕ × What)
queued_lines journal fence None = []
queued_lines journal fence (Some r) =
    (fence, does.Queued (place_of r fence r.ring)) ∷ map (λ earlier. (fence, does.Waits earlier.0)) (dependencies journal fence r.job)

-- a ring runs a job
abbrev pub run_lines : ℕ → ℕ → Option JobRecord → List (ℕ × What)
run_lines fence ring None = []
run_lines fence ring (Some r) = (fence, does.Ran (place_of r fence ring)) ∷ []

-- the ring that an event names
abbrev pub ring_named : Event Draft → ℕ
ring_named (event.Pick ring now) = ring
ring_named other = 0

-- what an answer tells of jobs, by the journal of all that were armed
abbrev pub lines_of : List JobRecord → Event Draft → Answer → List (ℕ × What)
lines_of journal happened (answer.Armed fence) = queued_lines journal fence (slice_get journal fence)
lines_of journal happened (answer.Picked fence skipped) = run_lines fence (ring_named happened) (slice_get journal fence)
lines_of journal happened (answer.Finished fence outcome) = (fence, does.Ended) ∷ []
lines_of journal happened (answer.Reaped fence) = (fence, does.Ended) ∷ []
lines_of journal happened other = []

-- lines with their numbers, from this one on
abbrev pub numbered_from : ℕ → List (ℕ × What) → List Line
numbered_from line [] = []
numbered_from line (told ∷ rest) = record { line = line; time = 0; job = told.0; what = told.1 } ∷ numbered_from (line + 1) rest

-- the log of a run, by the journal that it has left
abbrev pub log_of_run : List JobRecord → List (Event Draft) → List Answer → List Line
log_of_run journal events answers = numbered_from 1 (flat_map (λ step. lines_of journal step.0 step.1) (zip events answers))

-- the rules without tolerance, and without limits and orders of rings
abbrev pub plain_demands : Demands
plain_demands = record { tolerance = 0; in_order = false; limits = [] }

-- the log of every run of a core that was opened keeps all rules, so what is told as broken is no run of a core
abbrev pub EveryRunConforms : Type 0
EveryRunConforms =
    (spec : DeviceSpec) (events : List (Event Draft)) (answers : List Answer) (state : CoreState) → AllNamesExist spec events
    → Run (opened spec) events answers state → Conforms plain_demands (log_of_run state.device.journal events answers)
