-- What a step of a run adds to its trace.
use Rattle.std.specs.Prelude.{ℕ, zero, suc, Bool, true, false, not, ◌==◌, ◌&&◌, if◌then◌else◌, List, [], ◌∷◌, ◌++◌, Option, Some, None}
use Rattle.std.specs.Option.{option_to_list}
use Rattle.drm_types.specs.declared.outcome.Outcome.{Outcome}
use Rattle.drm_types.specs.declared.outcome.Outcome.TheVariants as outcome
use Rattle.drm_types.specs.declared.spec.DeviceSpec.{DeviceSpec}
use Rattle.drm_job.specs.declared.Draft.{Draft}
use Rattle.drm_state.specs.declared.answer.Answer.{Answer}
use Rattle.drm_state.specs.declared.answer.Answer.TheVariants as gives
use Rattle.drm_state.specs.declared.journal.JobRecord.{JobRecord}
use Rattle.drm_core.specs.State.{CoreState}
use Rattle.drm_core.specs.declared.event.Event.{Event}
use Rattle.drm_core.specs.declared.event.Event.TheVariants as happens
use Rattle.drm_perfetto.specs.declared.entry.Entry.{Entry}
use Rattle.drm_perfetto.specs.declared.entry.Entry.TheVariants as entry
use Rattle.drm_perfetto.specs.declared.entry.Track.{Track}
use Rattle.drm_perfetto.specs.declared.entry.Track.TheVariants as track
use Rattle.drm_perfetto.specs.declared.entry.When.{When}
use Rattle.drm_perfetto.specs.declared.lanes.Lane.{Lane}
use Rattle.drm_perfetto.specs.declared.lanes.Lane.TheVariants as lane
use Rattle.drm_perfetto.specs.declared.lanes.Row.{Row}
use Rattle.drm_perfetto.specs.declared.named.Moves.{Moves}
use Rattle.drm_perfetto.specs.declared.named.Named.{Named}
use Rattle.drm_perfetto.specs.Tracks.{count_of, owner_of, shown}

-- what this gives of each number below a count, in their order
abbrev pub each : ℕ → (ℕ → List Entry) → List Entry
each zero entries = []
each (suc n) entries = each n entries ++ entries n

-- ---- what a command names

abbrev pub naming_nothing : Named
naming_nothing = record { ring = 0; entity = 0; buffer = 0; ctx = 0; cancels = false }

abbrev pub named_of : Event Draft → Named
named_of (happens.Pick ring now) = record naming_nothing { ring = ring }
named_of (happens.Step ring) = record naming_nothing { ring = ring }
named_of (happens.Finish ring now) = record naming_nothing { ring = ring }
named_of (happens.Timeout ring now) = record naming_nothing { ring = ring }
named_of (happens.Cancel entity) = record naming_nothing { entity = entity; cancels = true }
named_of (happens.Reap entity) = record naming_nothing { entity = entity }
named_of (happens.Try ctx buffer) = record naming_nothing { ctx = ctx; buffer = buffer }
named_of _ = naming_nothing

-- ---- instants

-- a job that left its ring
abbrev pub ended_instant : ℕ → ℕ → ℕ → Outcome → Entry
ended_instant ring at fence outcome.Good = entry.Done ring at fence
ended_instant ring at fence outcome.Cancelled = entry.Skipped ring at fence
ended_instant ring at fence outcome.Stopped = entry.Skipped ring at fence

-- a command that was done: it has one where it stopped an entity
abbrev pub done_instant : Named → ℕ → Option Entry
done_instant named at = if named.cancels then Some (entry.Stopped named.entity at) else None

-- the instant of a command and the answer to it
abbrev pub instant_of : Named → ℕ → Answer → Option Entry
instant_of named at gives.Ok = done_instant named at
instant_of named at (gives.Older holder) = Some (entry.BacksOff named.buffer at named.ctx)
instant_of named at (gives.Younger holder) = Some (entry.MayWait named.buffer at named.ctx)
instant_of named at (gives.Ran fence packet) = Some (entry.Ran named.ring at fence packet)
instant_of named at (gives.Stalled fence) = Some (entry.Stalled named.ring at fence)
instant_of named at (gives.Finished fence how) = Some (ended_instant named.ring at fence how)
instant_of named at gives.Resumed = Some (entry.Hung named.ring at)
instant_of named at (gives.Guilty entity) = Some (entry.Guilty named.ring at entity)
instant_of named at (gives.Reaped fence) = Some (entry.Reaped named.entity at fence)
instant_of named at _ = None

-- ---- what a command may change

-- what is shown of jobs, rings and entities, by this answer: a packet that ran changes none of it
abbrev pub moves_device : Named → Answer → Bool
moves_device named (gives.Refused why) = false
moves_device named (gives.Ticket ticket) = false
moves_device named gives.Held = false
moves_device named (gives.Older holder) = false
moves_device named (gives.Younger holder) = false
moves_device named gives.Planned = false
moves_device named (gives.Ran fence packet) = false
moves_device named (gives.Stalled fence) = false
moves_device named gives.Empty = false
moves_device named (gives.NotYet due_in) = false
moves_device named gives.Complete = false
moves_device named (gives.Bytes bytes) = false
moves_device named (gives.Status status) = false
moves_device named gives.Ok = named.cancels
moves_device named _ = true

-- and who holds a buffer
abbrev pub moves_holders : Named → Answer → Bool
moves_holders named gives.Held = true
moves_holders named gives.Ok = not named.cancels
moves_holders named _ = false

abbrev pub moves_of : Named → Answer → Moves
moves_of named answer = record { device = moves_device named answer; holders = moves_holders named answer }

-- ---- slices, arrows and counters

-- the track of the job that lets others go: it ended on its ring or in its queue, or left its queue for a ring
abbrev pub cause_of : List JobRecord → Named → Answer → Option Track
cause_of journal named (gives.Finished fence how) = Some (track.Ring named.ring)
cause_of journal named (gives.Reaped fence) = Some (track.Queue named.entity)
cause_of journal named (gives.Picked fence skipped) = Some (track.Queue (owner_of journal fence))
cause_of journal named _ = None

-- the same is shown, or nothing on both sides
abbrev pub is_same : Option Row → Option Row → Bool
is_same None None = true
is_same (Some old) (Some new) = (old.what == new.what) && (old.of == new.of)
is_same None (Some new) = false
is_same (Some old) None = false

-- the slice of a track ends, if there is one
abbrev pub ended : Track → ℕ → Option Row → List Entry
ended on at None = []
ended on at (Some row) = entry.End on at ∷ []

-- and another begins, if there is one
abbrev pub begun : Track → ℕ → Option Row → List Entry
begun on at None = []
begun on at (Some row) = entry.Begin on at row.what row.of ∷ []

-- where a track shows another thing than before, one slice ends and another begins
abbrev pub turned : Track → ℕ → Option Row → Option Row → List Entry
turned on at old new = if is_same old new then [] else ended on at old ++ begun on at new

-- an arrow from the slice of a track to the job of an entity
abbrev pub arrow_between : Track → When → ℕ → List Entry
arrow_between on when entity = entry.Leave on when entity ∷ entry.Reach when entity ∷ []

-- from the track of the job that lets others go to a job that waited, and waits no more or for another
abbrev pub arrow : Option Track → When → ℕ → Option Row → Option Row → List Entry
arrow None when entity old new = []
arrow (Some on) when entity None new = []
arrow (Some on) when entity (Some old) new = if is_same (Some old) new then [] else arrow_between on when entity

-- a count that is another one than before
abbrev pub recounted : Option Row → Option Row → Option ℕ
recounted old None = None
recounted old (Some new) = if is_same old (Some new) then None else Some new.what

abbrev pub credits_entry : ℕ → ℕ → Option ℕ → List Entry
credits_entry ring at None = []
credits_entry ring at (Some used) = entry.Credits ring at used ∷ []

abbrev pub queued_entry : ℕ → ℕ → Option ℕ → List Entry
queued_entry ring at None = []
queued_entry ring at (Some jobs) = entry.Queued ring at jobs ∷ []

-- what changes in a lane
abbrev pub changed : Lane → When → Option Track → ℕ → Option Row → Option Row → List Entry
changed lane.Wait when cause entity old new = arrow cause when entity old new ++ turned (track.Wait entity) when.at old new
changed lane.Queue when cause entity old new = turned (track.Queue entity) when.at old new
changed lane.Ring when cause ring old new = turned (track.Ring ring) when.at old new
changed lane.Buffer when cause buffer old new = turned (track.Buffer buffer) when.at old new
changed lane.Credits when cause ring old new = credits_entry ring when.at (recounted old new)
changed lane.Queued when cause ring old new = queued_entry ring when.at (recounted old new)

-- what changes in all lanes of a kind
abbrev pub changes : DeviceSpec → When → Option Track → CoreState → CoreState → Lane → List Entry
changes spec when cause old new kind =
    each (count_of spec kind) (λ number. changed kind when cause number (shown old kind number) (shown new kind number))

-- what changes in the lanes of each kind
abbrev pub all_changes : When → Option Track → CoreState → CoreState → List Entry
all_changes when cause old new =
    changes new.device.spec when cause old new lane.Wait
    ++ changes new.device.spec when cause old new lane.Queue
    ++ changes new.device.spec when cause old new lane.Ring
    ++ changes new.device.spec when cause old new lane.Buffer
    ++ changes new.device.spec when cause old new lane.Credits
    ++ changes new.device.spec when cause old new lane.Queued

-- what a step adds: the instant, and what changes in each lane. A job that waits no more is told before the slice ends
-- that let it go, so that the arrow is between slices
abbrev pub step_entries : When → CoreState → Event Draft → Answer → CoreState → List Entry
step_entries when old event answer new =
    option_to_list (instant_of (named_of event) when.at answer)
    ++ all_changes when (cause_of new.device.journal (named_of event) answer) old new
