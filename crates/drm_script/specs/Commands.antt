-- Command lines: the events of a script.
use Rattle.std.specs.Prelude.{ℕ, Bool, true, false, ◌+◌, ◌^◌, ◌-◌, List, [], ◌∷◌, ◌++◌, length, Option, Some, None, Result, Ok}
use Rattle.drm_core.specs.declared.event.Event.{Event}
use Rattle.drm_core.specs.declared.event.Event.TheVariants as event
use Rattle.drm_job.specs.declared.Draft.{Draft}
use Rattle.drm_types.specs.declared.spec.DeviceSpec.{DeviceSpec}
use Rattle.drm_text.specs.declared.fault.Fault.{Fault}
use Rattle.drm_text.specs.declared.keywords.Command.{Command}
use Rattle.drm_text.specs.declared.keywords.Command.TheVariants as command
use Rattle.drm_text.specs.declared.keywords.Keyword.{Keyword}
use Rattle.drm_text.specs.declared.keywords.Keyword.TheVariants as line
use Rattle.drm_text.specs.Cut.{Words}
use Rattle.drm_text.specs.Reading.{◌>>=◌, or_fault}
use Rattle.drm_parse.specs.Job.{job_at}
use Rattle.drm_text.specs.Lines.{start_at, last_line, out_of_order}
use Rattle.drm_text.specs.Words.{last_number_at, name_at, last_name_at}

-- a context and a buffer, which end the line
unfoldable pub context_and_buffer_at : DeviceSpec → Words → Result (ℕ × ℕ) Fault
context_and_buffer_at spec words = do
  ctx ← name_at 64 words
  buffer ← last_name_at (length spec.buffers) ctx.1
  Ok (ctx.0, buffer)

-- a ring and a moment, which end the line
unfoldable pub ring_and_moment_at : DeviceSpec → Words → Result (ℕ × ℕ) Fault
ring_and_moment_at spec words = do
  ring ← name_at (length spec.rings) words
  now ← last_number_at (2 ^ 64 - 1) ring.1
  Ok (ring.0, now)

abbrev pub submit_at : Words → Result (Event Draft) Fault
submit_at words = job_at words >>= λ draft. Ok (event.Submit draft)

abbrev pub plan_at : Words → Result (Event Draft) Fault
plan_at words =
    name_at 64 words >>= λ ctx.
    job_at ctx.1 >>= λ draft.
    Ok (event.Plan ctx.0 draft)

-- whether the command names a context, and no job
abbrev pub names_context : Command → Bool
names_context command.Begin = true
names_context command.Try = true
names_context command.Done = true
names_context command.Drop = true
names_context command.End = true
names_context command.Arm = true
names_context command.Read = true
names_context other = false

-- the event that the words behind a command's name spell
unfoldable pub event_at : DeviceSpec → Command → Words → Result (Event Draft) Fault
event_at spec command.Submit words = submit_at words
event_at spec command.Begin words = last_name_at 64 words >>= λ ctx. Ok (event.Begin ctx)
event_at spec command.Try words = context_and_buffer_at spec words >>= λ names. Ok (event.Try names.0 names.1)
event_at spec command.Done words = last_name_at 64 words >>= λ ctx. Ok (event.Done ctx)
event_at spec command.Drop words = context_and_buffer_at spec words >>= λ names. Ok (event.Drop names.0 names.1)
event_at spec command.End words = last_name_at 64 words >>= λ ctx. Ok (event.End ctx)
event_at spec command.Plan words = plan_at words
event_at spec command.Arm words = last_name_at 64 words >>= λ ctx. Ok (event.Arm ctx)
event_at spec command.Pick words = ring_and_moment_at spec words >>= λ names. Ok (event.Pick names.0 names.1)
event_at spec command.Step words = last_name_at (length spec.rings) words >>= λ ring. Ok (event.Step ring)
event_at spec command.Finish words = ring_and_moment_at spec words >>= λ names. Ok (event.Finish names.0 names.1)
event_at spec command.Timeout words = ring_and_moment_at spec words >>= λ names. Ok (event.Timeout names.0 names.1)
event_at spec command.Cancel words = last_name_at (length spec.entities) words >>= λ entity. Ok (event.Cancel entity)
event_at spec command.Reap words = last_name_at (length spec.entities) words >>= λ entity. Ok (event.Reap entity)
event_at spec command.Read words = context_and_buffer_at spec words >>= λ names. Ok (event.Read names.0 names.1)
event_at spec command.Fence words = last_number_at (2 ^ 32 - 1) words >>= λ fence. Ok (event.Status fence)
event_at spec command.Dump words = last_name_at (length spec.buffers) words >>= λ buffer. Ok (event.Dump buffer)

-- the command that a line begins with
abbrev pub command_of : Keyword → Option Command
command_of line.Buffer = None
command_of line.Zero = None
command_of line.Ring = None
command_of line.Entity = None
command_of line.Jobs = None
command_of line.Go = None
command_of line.Job = None
command_of line.Final = None
command_of (line.Command c) = Some c

-- the event of a line
unfoldable pub event_line : DeviceSpec → ℕ → List ℕ → Result (Event Draft) Fault
event_line spec line bytes =
    start_at line bytes >>= λ start.
    or_fault (command_of start.0) (out_of_order line) >>= λ command.
    event_at spec command start.1

-- these events, and behind them the one that is read, or its fault
abbrev pub with_event : List (Event Draft) → Result (Event Draft) Fault → Result (List (Event Draft)) Fault
with_event events read = read >>= λ event. Ok (events ++ event ∷ [])

-- these events, and behind them the one that brings the job which the words spell, or its fault
abbrev pub with_job_at : List (Event Draft) → (Draft → Event Draft) → Words → Result (List (Event Draft)) Fault
with_job_at events bring words = with_event events (job_at words >>= λ job. Ok (bring job))

-- these events, and those of the lines up to the end of the text
unfoldable pub events_of : DeviceSpec → List (Event Draft) → ℕ → List ℕ → List (List ℕ) → Result (List (Event Draft)) Fault
events_of spec events line bytes [] = last_line line bytes >>= λ _. Ok events
events_of spec events line bytes (next ∷ rest) =
    event_line spec line bytes >>= λ event. events_of spec (events ++ event ∷ []) (line + 1) next rest
