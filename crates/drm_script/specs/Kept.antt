-- Events as a script keeps them: those that bring a job stand without it, and the jobs beside.
use Rattle.std.specs.Prelude.{◌≡◌, Bool, true, false, List, [], ◌∷◌, count_by, is_some, length}
use Rattle.drm_job.specs.declared.Draft.{Draft}
use Rattle.drm_state.specs.declared.answer.Answer.{Answer}
use Rattle.drm_core.specs.declared.event.Event.{Event}
use Rattle.drm_core.specs.Jobs.{job_of, with_job}
use Rattle.drm_core.specs.State.{CoreState}
use Rattle.drm_core.specs.Step.{Step}

-- an event without the job that it brings
abbrev pub Kept : Type 0
Kept = Event (Unit {0})

abbrev pub brings_job : Kept → Bool
brings_job kept = is_some (job_of kept)

-- the event that is kept so, with this job if it brings one
abbrev pub event_with : Kept → Draft → Event Draft
event_with kept job = with_job (λ _. job) kept

-- the job of an event that brings none, so that nothing shows it
abbrev pub no_job : Draft
no_job = record { entity = 0; credits = 0; declared = []; after = []; packets = [] }

-- the event that is kept so, if it brings no job
abbrev pub event_of : Kept → Event Draft
event_of kept = event_with kept no_job

-- an event, with the next of these jobs if it brings one, and behind it what comes of the others
abbrev pub next_joined : Bool → Kept → (List Draft → List (Event Draft)) → List Draft → List (Event Draft)
next_joined false kept rest jobs = event_of kept ∷ rest jobs
next_joined true kept rest [] = []
next_joined true kept rest (job ∷ jobs) = event_with kept job ∷ rest jobs

-- the events that are kept so, in their order, each that brings a job with the next of these
abbrev pub joined : List Kept → List Draft → List (Event Draft)
joined [] jobs = []
joined (kept ∷ rest) jobs = next_joined (brings_job kept) kept (joined rest) jobs

-- there are as many jobs as events that bring one
abbrev pub AreMatched : List Kept → List Draft → Type 0
AreMatched kept jobs = count_by brings_job kept ≡ length jobs

-- the core may give this answer to the first of these events, and those behind it are left
abbrev pub AnswersFirst : CoreState → List (Event Draft) → Answer → CoreState → List (Event Draft) → Type 0
AnswersFirst old events answer new left = (event : Event Draft) × (events ≡ event ∷ left) × Step old event answer new
