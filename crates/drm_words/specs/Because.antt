-- What stands behind the sentence of an answer: why it is so, told of the cores before and behind its event.
use Rattle.std.specs.Prelude.{ℕ, ◌<◌, not, List, [], ◌∷◌, ◌++◌, Option, Some, None, codes, find, flat_map, length, option_map, slice_get, if◌then◌else◌}
use Rattle.std.specs.List.{enumerate_from}
use Rattle.std.specs.Option.{option_map_or}
use Rattle.drm_types.specs.declared.spec.DeviceSpec.{DeviceSpec}
use Rattle.drm_job.specs.declared.Draft.{Draft}
use Rattle.drm_job.specs.Fault.{buffers_of}
use Rattle.drm_state.specs.declared.answer.Answer.{Answer}
use Rattle.drm_state.specs.declared.answer.Answer.TheVariants as answer
use Rattle.drm_state.specs.declared.answer.Refusal.{Refusal}
use Rattle.drm_state.specs.declared.answer.Refusal.TheVariants as refusal
use Rattle.drm_state.specs.State.{DeviceState}
use Rattle.drm_state.specs.Choice.{choice}
use Rattle.drm_core.specs.declared.event.Event.{Event}
use Rattle.drm_core.specs.declared.event.Event.TheVariants as event
use Rattle.drm_core.specs.State.{CoreState}
use Rattle.drm_core.specs.Context.{holder_of, holds}
use Rattle.drm_reason.specs.Reasons.{queue_head, reason_of}
use Rattle.drm_reason.specs.Released.{is_released}
use Rattle.drm_reason.specs.Retired.{first_queued_for}
use Rattle.drm_reason.specs.Said.{bare, counted, said_of, text_of_parts}

-- the entity and the ring of a job
abbrev pub entity_of_job : DeviceState → ℕ → ℕ
entity_of_job device number = option_map_or (λ r. r.job.entity) (slice_get device.journal number) 0

abbrev pub ring_of_job : DeviceState → ℕ → ℕ
ring_of_job device number = option_map_or (λ r. r.ring) (slice_get device.journal number) 0

-- why a job waits, or what it does
abbrev pub reason_text : DeviceState → ℕ → List ℕ
reason_text device number = said_of (reason_of device number)

-- so of a job by name, with what it is there
abbrev pub job_text : DeviceState → List ℕ → ℕ → List ℕ
job_text device role number =
    text_of_parts (counted (codes ": fence ") number ∷ counted (codes " of entity ") (entity_of_job device number) ∷ bare role ∷ [])
    ++ reason_text device number

-- the first job that is queued for a ring
abbrev pub first_text : DeviceState → Option ℕ → List ℕ
first_text device None = codes ": none is queued for it"
first_text device (Some number) = job_text device (codes ", first in line, ") number

-- the job that a pick would take if its ring had more credits
abbrev pub next_text : DeviceState → Option ℕ → List ℕ
next_text device None = []
next_text device (Some number) = job_text device (codes ", next in line, ") number

-- the job that a reap would end
abbrev pub head_text : DeviceState → Option ℕ → List ℕ
head_text device None = []
head_text device (Some number) = text_of_parts (counted (codes ": fence ") number ∷ bare (codes " ") ∷ []) ++ reason_text device number

-- the job for which a read waits
abbrev pub writer_text : DeviceState → ℕ → List ℕ
writer_text device number = codes ", which " ++ reason_text device number

-- the ring for which a job that was armed is queued, and why it waits
abbrev pub armed_text : DeviceState → ℕ → List ℕ
armed_text device number =
    text_of_parts (counted (codes " for ring ") (ring_of_job device number) ∷ bare (codes ": it ") ∷ []) ++ reason_text device number

-- a buffer that the job of a plan declares and its context does not hold, and who holds it
abbrev pub Missing : Type 0
Missing = ℕ × Option ℕ

-- the first such
abbrev pub missing_of : CoreState → Event Draft → Option Missing
missing_of core (event.Plan ctx job) =
    option_map (λ buffer. (buffer, holder_of core buffer)) (find (λ buffer. not (holds core ctx buffer)) (buffers_of job))
missing_of core other = None

abbrev pub missing_text : Option Missing → List ℕ
missing_text None = []
missing_text (Some (buffer, None)) = text_of_parts (counted (codes ": no context holds buffer ") buffer ∷ [])
missing_text (Some (buffer, Some ctx)) = text_of_parts (counted (codes ": context ") ctx ∷ counted (codes " holds buffer ") buffer ∷ [])

-- who holds the buffer that was asked for
abbrev pub holder_text : Option ℕ → List ℕ
holder_text None = []
holder_text (Some ctx) = text_of_parts (counted (codes ": context ") ctx ∷ bare (codes " holds it") ∷ [])

-- why the event is refused, where more is told of that than its sentence says
abbrev pub idle_text : DeviceState → Event ℕ → List ℕ
idle_text device (event.Pick ring now) = first_text device (first_queued_for device.journal ring)
idle_text device other = []

abbrev pub credit_text : DeviceState → Event ℕ → List ℕ
credit_text device (event.Pick ring now) = next_text device (choice device ring)
credit_text device other = []

abbrev pub reap_text : DeviceState → Event ℕ → List ℕ
reap_text device (event.Reap entity) = head_text device (queue_head device entity)
reap_text device other = []

abbrev pub refused_text : CoreState → Event ℕ → Option Missing → Refusal → List ℕ
refused_text core subject missing refusal.Idle = idle_text core.device subject
refused_text core subject missing (refusal.NoCredit need free) = credit_text core.device subject
refused_text core subject missing refusal.Waits = reap_text core.device subject
refused_text core subject missing (refusal.Busy fence) = writer_text core.device fence
refused_text core subject missing refusal.NotAllHeld = missing_text missing
refused_text core subject missing (refusal.Held buffer) = holder_text (holder_of core buffer)
refused_text core subject missing other = []

-- why the answer is so: why the event is refused, or where a job that is armed is queued, and what it waits for
abbrev pub because : CoreState → Event ℕ → Option Missing → Answer → List ℕ
because core subject missing (answer.Refused why) = refused_text core subject missing why
because core subject missing (answer.Armed fence) = armed_text core.device fence
because core subject missing other = []

-- the first job in the queue of an entity, where the end of a fence lets it go
abbrev pub let_go_by : DeviceState → ℕ → ℕ → Option ℕ → List ℕ
let_go_by device fence entity None = []
let_go_by device fence entity (Some number) =
    if is_released device fence number
    then text_of_parts (counted (codes ", and lets fence ") number ∷ counted (codes " of entity ") entity ∷ bare (codes " go") ∷ [])
    else []

abbrev pub let_go_text : DeviceState → ℕ → ℕ → List ℕ
let_go_text device fence entity = let_go_by device fence entity (queue_head device entity)

-- all that it lets go, in the order of their entities
abbrev pub all_let_go : DeviceState → ℕ → List ℕ
all_let_go device fence = flat_map (λ e. let_go_text device fence e.0) (enumerate_from 0 device.spec.entities)

-- what the end of a job lets go
abbrev pub letting_go : DeviceState → Answer → List ℕ
letting_go device (answer.Finished fence outcome) = all_let_go device fence
letting_go device other = []

-- the ring that a pick names, and the entity that a reap names, are there
abbrev pub NamesThere : DeviceSpec → Event ℕ → Type 0
NamesThere spec (event.Pick ring now) = ring < length spec.rings
NamesThere spec (event.Reap entity) = entity < length spec.entities
NamesThere spec other = Unit {0}
