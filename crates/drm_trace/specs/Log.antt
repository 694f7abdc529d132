-- A log as it is read: what each line adds.
use Rattle.std.specs.Prelude.{ℕ, Bool, ◌||◌, nat_le, nat_lt, List, [], ◌∷◌, ◌++◌, Option, Some, None, length, slice_get, slice_set, if◌then◌else◌}
use Rattle.std.specs.List.{position_or_len}
use Rattle.std.specs.Option.{option_and_then}
use Rattle.std.specs.Str.{bytes_eq}
use Rattle.drm_trace.specs.declared.event.Event.{Event}
use Rattle.drm_trace.specs.declared.event.Moment.{Moment}
use Rattle.drm_trace.specs.declared.event.Place.{Place}
use Rattle.drm_trace.specs.declared.event.Step.{Step}
use Rattle.drm_trace.specs.declared.event.Step.TheVariants as steps
use Rattle.drm_trace.specs.declared.event.Task.{Task}
use Rattle.drm_trace.specs.declared.event.What.{What}
use Rattle.drm_trace.specs.declared.event.What.TheVariants as happening
use Rattle.drm_trace.specs.declared.log.Log.{Log}
use Rattle.drm_trace.specs.Names.{number_in, placed_in, with_name}

-- nothing was read yet
abbrev pub nothing_read : Log
nothing_read = record { lines = 0; events = []; jobs = []; entities = []; rings = []; fences = []; holders = []; format = None; lost = None }

-- the number of a ring: the place of its name, or the next one where it is new
abbrev pub ring_in : List (List ℕ) → List ℕ → ℕ
ring_in rings name = position_or_len (λ met. bytes_eq met name) rings

abbrev pub with_ring : List (List ℕ) → List ℕ → List (List ℕ)
with_ring rings name = if nat_lt (ring_in rings name) (length rings) then rings else rings ++ name ∷ []

-- the name of a job: its fence's context and number, or its ring and its number there
abbrev pub name_by : Option ℕ → ℕ → ℕ → ℕ → ℕ × ℕ
name_by None entity id ring = (entity, id)
name_by (Some fence) entity id ring = (ring, id)

abbrev pub name_of : Task → ℕ → ℕ × ℕ
name_of task ring = name_by task.fence task.entity task.id ring

-- the name of an entity: the context of its fences, or its address and its ring, in which its jobs have rising numbers
abbrev pub entity_by : Option ℕ → ℕ → ℕ → ℕ × ℕ
entity_by None entity ring = (entity, 0)
entity_by (Some fence) entity ring = (entity, ring)

abbrev pub entity_of : Task → ℕ → ℕ × ℕ
entity_of task ring = entity_by task.fence task.entity ring

-- the job that holds the fence of this number is this one
abbrev pub held_by : List ℕ → ℕ → ℕ → List ℕ
held_by holders fence job = if nat_lt fence (length holders) then slice_set holders fence job else holders ++ job ∷ []

-- the job holds the fence at this address from now on, if it has an address
abbrev pub with_fence : Log → Option ℕ → ℕ → Log
with_fence log None job = log
with_fence log (Some fence) job = record log {
  fences = with_name log.fences (fence, 0);
  holders = held_by log.holders (number_in log.fences (fence, 0)) job;
}

-- the job that holds the fence at this address: that which was queued or run with it last
abbrev pub holder_of : Log → ℕ → Option ℕ
holder_of log fence = option_and_then (λ n. slice_get log.holders n) (placed_in log.fences (fence, 0))

abbrev pub what_of : Step → Place → What
what_of steps.Queues place = happening.Queued place
what_of steps.Runs place = happening.Ran place

abbrev pub with_event : Log → Moment → ℕ → What → Log
with_event log at job what = record log { events = log.events ++ record { line = at.line; time = at.time; job = job; what = what } ∷ [] }

-- a job is queued, or its ring runs it
abbrev pub with_job : Step → Moment → Task → List ℕ → Log → Log
with_job step at task ring log =
    let number = ring_in log.rings ring in
    let job = number_in log.jobs (name_of task number) in
    let place : Place = record { entity = number_in log.entities (entity_of task number); number = task.id; ring = number } in
    let met : Log = record log {
      rings = with_ring log.rings ring;
      jobs = with_name log.jobs (name_of task number);
      entities = with_name log.entities (entity_of task number);
    } in
    with_event (with_fence met task.fence job) at job (what_of step place)

-- a job of this name waits for another
abbrev pub with_wait : Moment → ℕ × ℕ → ℕ × ℕ → Log → Log
with_wait at job on log =
    let jobs = with_name log.jobs job in
    with_event (record log { jobs = with_name jobs on }) at (number_in log.jobs job) (happening.Waits (number_in jobs on))

-- a job of this ring waits for that which holds the fence, if one does
abbrev pub with_wait_for : Moment → List ℕ → ℕ → Option ℕ → Log → Log
with_wait_for at ring id None log = log
with_wait_for at ring id (Some on) log =
    let number = ring_in log.rings ring in
    with_event (record log { rings = with_ring log.rings ring; jobs = with_name log.jobs (number, id) }) at (number_in log.jobs (number, id)) (happening.Waits on)

-- a job of this name ends
abbrev pub with_end : Moment → ℕ × ℕ → Log → Log
with_end at job log = with_event (record log { jobs = with_name log.jobs job }) at (number_in log.jobs job) happening.Ended

-- the job that holds the fence ends, if one does
abbrev pub with_end_of : Moment → Option ℕ → Log → Log
with_end_of at None log = log
with_end_of at (Some job) log = with_event log at job happening.Ended

-- the log has as many lines or rings as are read
abbrev pub is_full : Log → Bool
is_full log = nat_le 100000000 log.lines || nat_le 1024 (length log.rings)
