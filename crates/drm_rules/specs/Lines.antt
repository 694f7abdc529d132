-- What lines tell, and the first of those that tell it of a job.
use Rattle.std.specs.Prelude.{ℕ, Bool, true, false, ◌==◌, List, [], ◌∷◌, Option, Some, None, find, count_by, if◌then◌else◌}
use Rattle.std.specs.Option.{option_or}
use Rattle.drm_trace.specs.declared.event.Event.{Event}
use Rattle.drm_trace.specs.declared.event.What.{What}
use Rattle.drm_trace.specs.declared.event.What.TheVariants as does
use Rattle.drm_rules.specs.Rows.{is_in, item_in}

-- the job that a line queues
abbrev pub job_queued : ℕ → What → Option ℕ
job_queued job (does.Queued place) = Some job
job_queued job (does.Ran place) = None
job_queued job (does.Waits on) = None
job_queued job does.Ended = None

-- the job that a line runs
abbrev pub job_run : ℕ → What → Option ℕ
job_run job (does.Queued place) = None
job_run job (does.Ran place) = Some job
job_run job (does.Waits on) = None
job_run job does.Ended = None

-- the job that a line ends
abbrev pub job_ended : ℕ → What → Option ℕ
job_ended job (does.Queued place) = None
job_ended job (does.Ran place) = None
job_ended job (does.Waits on) = None
job_ended job does.Ended = Some job

abbrev pub queues : Event → Option ℕ
queues e = job_queued e.job e.what

abbrev pub runs : Event → Option ℕ
runs e = job_run e.job e.what

abbrev pub ends : Event → Option ℕ
ends e = job_ended e.job e.what

-- the entity whose job is queued
abbrev pub entity_queued : What → Option ℕ
entity_queued (does.Queued place) = Some place.entity
entity_queued (does.Ran place) = None
entity_queued (does.Waits on) = None
entity_queued does.Ended = None

-- the entity whose job runs
abbrev pub entity_run : What → Option ℕ
entity_run (does.Queued place) = None
entity_run (does.Ran place) = Some place.entity
entity_run (does.Waits on) = None
entity_run does.Ended = None

abbrev pub queues_of : Event → Option ℕ
queues_of e = entity_queued e.what

abbrev pub runs_of : Event → Option ℕ
runs_of e = entity_run e.what

-- the ring that runs the job
abbrev pub ring_run : What → Option ℕ
ring_run (does.Queued place) = None
ring_run (does.Ran place) = Some place.ring
ring_run (does.Waits on) = None
ring_run does.Ended = None

-- the job that is waited for
abbrev pub job_awaited : What → Option ℕ
job_awaited (does.Queued place) = None
job_awaited (does.Ran place) = None
job_awaited (does.Waits on) = Some on
job_awaited does.Ended = None

-- the number of the job among those of its entity, where the line tells it
abbrev pub number_told : What → ℕ
number_told (does.Queued place) = place.number
number_told (does.Ran place) = place.number
number_told (does.Waits on) = 0
number_told does.Ended = 0

-- the first line of a lane
abbrev pub first_in : (Event → Option ℕ) → List Event → ℕ → Option Event
first_in lane log k = find (λ e. is_in (lane e) k) log

-- the last line of a lane
abbrev pub last_in : (Event → Option ℕ) → List Event → ℕ → Option Event
last_in lane [] k = None
last_in lane (e ∷ log) k = option_or (last_in lane log k) (item_in (lane e) e k)

-- how many lines a lane has
abbrev pub count_in : (Event → Option ℕ) → List Event → ℕ → ℕ
count_in lane log k = count_by (λ e. is_in (lane e) k) log

-- the line that queues a job, that runs it, that ends it: the first that does
abbrev pub queueing : List Event → ℕ → Option Event
queueing log job = first_in queues log job

abbrev pub running : List Event → ℕ → Option Event
running log job = first_in runs log job

abbrev pub ending : List Event → ℕ → Option Event
ending log job = first_in ends log job

-- whether this is the line
abbrev pub is_line : Option Event → Event → Bool
is_line None e = false
is_line (Some told) e = told.line == e.line
