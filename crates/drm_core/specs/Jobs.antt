-- The jobs of events: what stands for one, and the event with another thing in its place.
use Rattle.std.specs.Prelude.{◌≡◌, Option, Some, None, MatchOption}
use Rattle.drm_core.specs.declared.event.Event.{Event}
use Rattle.drm_core.specs.declared.event.Event.TheVariants as event

-- what stands for the job that the event brings: a submission and a plan bring one
abbrev pub job_of : {J : Type 0} → Event J → Option J
job_of (event.Submit job) = Some job
job_of (event.Plan ctx job) = Some job
job_of _ = None

-- the event with what this gives for its job
abbrev pub with_job : {J K : Type 0} → (J → K) → Event J → Event K
with_job give (event.Submit job) = event.Submit (give job)
with_job give (event.Begin ctx) = event.Begin ctx
with_job give (event.Try ctx buffer) = event.Try ctx buffer
with_job give (event.Done ctx) = event.Done ctx
with_job give (event.Drop ctx buffer) = event.Drop ctx buffer
with_job give (event.End ctx) = event.End ctx
with_job give (event.Plan ctx job) = event.Plan ctx (give job)
with_job give (event.Arm ctx) = event.Arm ctx
with_job give (event.Pick ring now) = event.Pick ring now
with_job give (event.Step ring) = event.Step ring
with_job give (event.Finish ring now) = event.Finish ring now
with_job give (event.Timeout ring now) = event.Timeout ring now
with_job give (event.Cancel entity) = event.Cancel entity
with_job give (event.Reap entity) = event.Reap entity
with_job give (event.Read ctx buffer) = event.Read ctx buffer
with_job give (event.Status fence) = event.Status fence
with_job give (event.Dump buffer) = event.Dump buffer

-- new is the old event with what may be given for its job: it is so for each function that gives this. Where there is
-- no job it is so for any function
abbrev pub IsMapped : {J K : Type 0} → (J → K → Type 0) → Event J → Event K → Type 0
IsMapped {J} {K} MayGive old new =
    MatchOption (job_of old) ((give : J → K) → new ≡ with_job give old)
    (λ job. (given : K) × MayGive job given × ((give : J → K) → give job ≡ given → new ≡ with_job give old))
