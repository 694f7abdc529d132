-- The form of each event, in one place: its fields and what stands between them.
use Rattle.std.specs.Prelude.{ℕ, Bool, true, false, ◌+◌, ◌-◌, ◌*◌, ◌^◌, ◌||◌, nat_lt, min, List, length, take, drop, codes, Option, Some, None, Result, Ok, Err, if◌then◌else◌}
use Rattle.drm_text.specs.declared.fault.Fault.{Fault}
use Rattle.drm_text.specs.declared.fault.Fault.TheVariants.{Text}
use Rattle.drm_text.specs.declared.fault.TextFault.TheVariants as what
use Rattle.drm_text.specs.Reading.{◌>>=◌}
use Rattle.drm_trace.specs.declared.event.Moment.{Moment}
use Rattle.drm_trace.specs.declared.event.Step.{Step}
use Rattle.drm_trace.specs.declared.event.Step.TheVariants as steps
use Rattle.drm_trace.specs.declared.event.Task.{Task}
use Rattle.drm_trace.specs.declared.kinds.Format.{Format}
use Rattle.drm_trace.specs.declared.kinds.Format.TheVariants as formats
use Rattle.drm_trace.specs.declared.kinds.Kind.{Kind}
use Rattle.drm_trace.specs.declared.kinds.Kind.TheVariants as kind
use Rattle.drm_trace.specs.declared.log.Log.{Log}
use Rattle.drm_trace.specs.Bytes.{tells_loss, word_start}
use Rattle.drm_trace.specs.Kinds.{event_from, format_of, mark_of}
use Rattle.drm_trace.specs.Log.{holder_of, is_full, with_end, with_end_of, with_job, with_wait, with_wait_for}
use Rattle.drm_trace.specs.Rest.{Rest, address_behind, behind_spaces, end_at, fraction_at, mark_at, number_at, number_behind, pair_behind, text_between}

-- ---- kernels that name fences by context and number

-- drm_sched_job_queue, drm_sched_job_run: dev=%s, fence=%llu:%llu, ring=%s, job count:%u, hw job count:%d,
-- client_id:%llu
unfoldable pub numbered_job : Rest → Result (Task × List ℕ) Fault
numbered_job rest = do
  device ← text_between (codes "dev=") (codes ", fence=") rest
  context ← number_at (2 ^ 64 - 1) device.1
  number ← number_behind (codes ":") context.1
  ring ← text_between (codes ", ring=") (codes ", job count:") number.1
  Ok (record { entity = context.0; id = number.0; fence = None }, ring.0)

-- drm_sched_job_done: fence=%llu:%llu signaled
unfoldable pub numbered_end : Rest → Result (ℕ × ℕ) Fault
numbered_end rest = do
  fence ← pair_behind (codes "fence=") rest
  _ ← mark_at (codes " signaled") fence.1
  Ok fence.0

-- drm_sched_job_add_dep: fence=%llu:%llu depends on fence=%llu:%llu
-- drm_sched_job_unschedulable: fence=%llu:%llu depends on unsignalled fence=%llu:%llu
unfoldable pub numbered_wait : List ℕ → Rest → Result ((ℕ × ℕ) × (ℕ × ℕ)) Fault
numbered_wait between rest = do
  job ← pair_behind (codes "fence=") rest
  on ← pair_behind between job.1
  Ok (job.0, on.0)

-- ---- kernels that name fences by address

-- drm_sched_job, drm_run_job: entity=%p, id=%llu, fence=%p, ring=%s, job count:%u, hw job count:%d
unfoldable pub addressed_job : Rest → Result (Task × List ℕ) Fault
addressed_job rest = do
  entity ← address_behind (codes "entity=") rest
  id ← number_behind (codes ", id=") entity.1
  fence ← address_behind (codes ", fence=") id.1
  ring ← text_between (codes ", ring=") (codes ", job count:") fence.1
  Ok (record { entity = entity.0; id = id.0; fence = Some fence.0 }, ring.0)

-- drm_sched_process_job: fence=%p signaled
unfoldable pub addressed_end : Rest → Result ℕ Fault
addressed_end rest = do
  fence ← address_behind (codes "fence=") rest
  _ ← mark_at (codes " signaled") fence.1
  Ok fence.0

-- drm_sched_job_wait_dep: job ring=%s, id=%llu, depends fence=%p, context=%llu, seq=%u
unfoldable pub addressed_wait : Rest → Result (List ℕ × ℕ × ℕ) Fault
addressed_wait rest = do
  ring ← text_between (codes "job ring=") (codes ", id=") rest
  id ← number_at (2 ^ 64 - 1) ring.1
  fence ← address_behind (codes ", depends fence=") id.1
  context ← number_behind (codes ", context=") fence.1
  _ ← number_behind (codes ", seq=") context.1
  Ok (ring.0, id.0, fence.0)

-- ---- what an event adds to the log

-- a job that is queued or run
abbrev pub numbered_job_told : Step → Moment → Log → Rest → Result Log Fault
numbered_job_told step at log rest = numbered_job rest >>= λ job. Ok (with_job step at job.0 job.1 log)

abbrev pub addressed_job_told : Step → Moment → Log → Rest → Result Log Fault
addressed_job_told step at log rest = addressed_job rest >>= λ job. Ok (with_job step at job.0 job.1 log)

-- a wait
abbrev pub numbered_wait_told : List ℕ → Moment → Log → Rest → Result Log Fault
numbered_wait_told between at log rest = numbered_wait between rest >>= λ wait. Ok (with_wait at wait.0 wait.1 log)

abbrev pub addressed_wait_told : Moment → Log → Rest → Result Log Fault
addressed_wait_told at log rest = addressed_wait rest >>= λ wait. Ok (with_wait_for at wait.0 wait.1 (holder_of log wait.2) log)

-- an end
abbrev pub numbered_end_told : Moment → Log → Rest → Result Log Fault
numbered_end_told at log rest = numbered_end rest >>= λ job. Ok (with_end at job log)

abbrev pub addressed_end_told : Moment → Log → Rest → Result Log Fault
addressed_end_told at log rest = addressed_end rest >>= λ fence. Ok (with_end_of at (holder_of log fence) log)

-- what stands behind an event's name, by the event
unfoldable pub event_told : Kind → Moment → Log → Rest → Result Log Fault
event_told kind.JobQueue at log rest = numbered_job_told steps.Queues at log rest
event_told kind.JobRun at log rest = numbered_job_told steps.Runs at log rest
event_told kind.JobDone at log rest = numbered_end_told at log rest
event_told kind.JobAddDep at log rest = numbered_wait_told (codes " depends on fence=") at log rest
event_told kind.JobUnschedulable at log rest = numbered_wait_told (codes " depends on unsignalled fence=") at log rest
event_told kind.SchedJob at log rest = addressed_job_told steps.Queues at log rest
event_told kind.RunJob at log rest = addressed_job_told steps.Runs at log rest
event_told kind.ProcessJob at log rest = addressed_end_told at log rest
event_told kind.JobWaitDep at log rest = addressed_wait_told at log rest

-- ---- a line

-- the time of a line: seconds, a point, and six digits for microseconds or nine for nanoseconds
unfoldable pub time_at : Rest → Result ℕ Fault
time_at rest = do
  seconds ← number_at 9999999999 rest
  point ← mark_at (codes ".") seconds.1
  fraction ← fraction_at point
  _ ← end_at fraction.1
  Ok (seconds.0 * 1000000000 + fraction.0)

-- the word that ends before a place
abbrev pub word_before : ℕ → ℕ → List ℕ → Rest
word_before line at bytes = record { line = line; at = word_start bytes at; bytes = drop (word_start bytes at) (take at bytes) }

-- what stands behind an event's name
abbrev pub fields_behind : ℕ → ℕ → Kind → List ℕ → Rest
fields_behind line at event bytes = record { line = line; at = at + length (mark_of event); bytes = drop (at + length (mark_of event)) bytes }

-- whether two kernels name fences alike
abbrev pub is_format : Format → Option Format → Bool
is_format one None = true
is_format formats.Numbers (Some formats.Numbers) = true
is_format formats.Addresses (Some formats.Addresses) = true
is_format one (Some other) = false

-- all lines of a log are those of one kernel
unfoldable pub in_format : ℕ → Format → Log → Result Log Fault
in_format line one log = if is_format one log.format then Ok (record log { format = Some one }) else Err (Text line 1 what.Order)

-- a line that tells of no job may tell that events were lost
abbrev pub with_loss : ℕ → List ℕ → Log → Log
with_loss line bytes log = if tells_loss bytes then record log { lost = Some line } else log

-- what an event at a place of a line adds, if one is there
unfoldable pub line_told : ℕ → List ℕ → Option (ℕ × Kind) → Log → Result Log Fault
line_told line bytes None log = Ok (with_loss line bytes log)
line_told line bytes (Some found) log = do
  log ← in_format line (format_of found.1) log
  time ← time_at (word_before line found.0 bytes)
  event_told found.1 (record { line = line; time = time }) log (behind_spaces (fields_behind line found.0 found.1 bytes))

-- the next line is one more than is read, or too long itself
abbrev pub too_long : Log → Fault
too_long log = Text (min (log.lines + 1) (2 ^ 32 - 1)) 1 what.TooLong

-- what a line adds to a log, or its fault
unfoldable pub with_line : Log → List ℕ → Result Log Fault
with_line log bytes =
    if is_full log || nat_lt 1048576 (length bytes) then Err (too_long log)
    else line_told (log.lines + 1) bytes (event_from 0 bytes) (record log { lines = log.lines + 1 })
