-- The events of gpu_scheduler by name, and where one stands in a line.
use Rattle.std.specs.Prelude.{ℕ, ◌+◌, List, [], ◌∷◌, Option, Some, None, codes, find}
use Rattle.drm_trace.specs.declared.kinds.Format.{Format}
use Rattle.drm_trace.specs.declared.kinds.Format.TheVariants as formats
use Rattle.drm_trace.specs.declared.kinds.Kind.{Kind}
use Rattle.drm_trace.specs.declared.kinds.Kind.TheVariants as kind
use Rattle.drm_trace.specs.Bytes.{begins_with}

-- the name as it stands in a line, between colons. The fields stand behind it and some spaces
abbrev pub mark_of : Kind → List ℕ
mark_of kind.JobQueue = codes ": drm_sched_job_queue:"
mark_of kind.JobRun = codes ": drm_sched_job_run:"
mark_of kind.JobDone = codes ": drm_sched_job_done:"
mark_of kind.JobAddDep = codes ": drm_sched_job_add_dep:"
mark_of kind.JobUnschedulable = codes ": drm_sched_job_unschedulable:"
mark_of kind.SchedJob = codes ": drm_sched_job:"
mark_of kind.RunJob = codes ": drm_run_job:"
mark_of kind.ProcessJob = codes ": drm_sched_process_job:"
mark_of kind.JobWaitDep = codes ": drm_sched_job_wait_dep:"

-- all events
abbrev pub kinds : List Kind
kinds =
    kind.JobQueue
    ∷ kind.JobRun
    ∷ kind.JobDone
    ∷ kind.JobAddDep
    ∷ kind.JobUnschedulable
    ∷ kind.SchedJob
    ∷ kind.RunJob
    ∷ kind.ProcessJob
    ∷ kind.JobWaitDep
    ∷ []

-- how kernels with an event name fences: those up to 6.15 by address, later ones by context and number
abbrev pub format_of : Kind → Format
format_of kind.JobQueue = formats.Numbers
format_of kind.JobRun = formats.Numbers
format_of kind.JobDone = formats.Numbers
format_of kind.JobAddDep = formats.Numbers
format_of kind.JobUnschedulable = formats.Numbers
format_of kind.SchedJob = formats.Addresses
format_of kind.RunJob = formats.Addresses
format_of kind.ProcessJob = formats.Addresses
format_of kind.JobWaitDep = formats.Addresses

-- the event whose name stands first in the bytes
unfoldable pub kind_at : List ℕ → Option Kind
kind_at bytes = find (λ k. begins_with (mark_of k) bytes) kinds

-- this event at this place, or what comes later
abbrev pub here_or : ℕ → Option Kind → Option (ℕ × Kind) → Option (ℕ × Kind)
here_or at (Some k) later = Some (at, k)
here_or at None later = later

-- the place at which an event's name stands first in these bytes, of which the first has this place, and the event
abbrev pub event_from : ℕ → List ℕ → Option (ℕ × Kind)
event_from at [] = None
event_from at (byte ∷ bytes) = here_or at (kind_at (byte ∷ bytes)) (event_from (at + 1) bytes)
