-- The trace of a run, and what the engine writes of a script.
use Rattle.std.specs.Prelude.{◌≡◌, ℕ, ◌+◌, ◌-◌, ◌^◌, max, min, List, [], ◌∷◌, ◌++◌, Option, Some, None, flat_map}
use Rattle.std.specs.Option.{option_map_or}
use Rattle.std.specs.Io.KnownBytes.{Appends, Keeps}
use Rattle.drm_types.specs.declared.spec.DeviceSpec.{DeviceSpec}
use Rattle.drm_job.specs.declared.Draft.{Draft}
use Rattle.drm_state.specs.declared.answer.Answer.{Answer}
use Rattle.drm_core.specs.State.{CoreState, opened}
use Rattle.drm_core.specs.Step.{Step}
use Rattle.drm_core.specs.Headline.{Promises}
use Rattle.drm_core.specs.declared.event.Event.{Event}
use Rattle.drm_core.specs.declared.event.Event.TheVariants as happens
use Rattle.drm_script.specs.declared.script.Script.{Script}
use Rattle.drm_stream.specs.Transfer.{AppendsFront}
use Rattle.drm_engine.specs.Replaying.{Replays, SpellsScript}
use Rattle.drm_engine.specs.declared.ending.Ending.{Ending}
use Rattle.drm_engine.specs.declared.ending.Ending.TheVariants as ending
use Rattle.drm_perfetto.specs.declared.clock.Clock.{Clock}
use Rattle.drm_perfetto.specs.declared.clock.Clock.TheVariants as clock
use Rattle.drm_perfetto.specs.declared.entry.Entry.{Entry}
use Rattle.drm_perfetto.specs.declared.entry.Entry.TheVariants as entry
use Rattle.drm_perfetto.specs.declared.entry.Track.{Track}
use Rattle.drm_perfetto.specs.declared.entry.Track.TheVariants as track
use Rattle.drm_perfetto.specs.declared.entry.When.{When}
use Rattle.drm_perfetto.specs.declared.lanes.Lane.{Lane}
use Rattle.drm_perfetto.specs.declared.lanes.Lane.TheVariants as lane
use Rattle.drm_perfetto.specs.declared.tracing.TheConstants.{HEAD, TAIL}
use Rattle.drm_perfetto.specs.Entries.{text_of}
use Rattle.drm_perfetto.specs.Steps.{each, step_entries}
use Rattle.drm_perfetto.specs.Tracks.{count_of}

-- the number of the next command: numbers end at 2^64 - 1
abbrev pub later : ℕ → ℕ
later command = min (command + 1) (2 ^ 64 - 1)

-- the moment that an event tells
abbrev pub moment_of : Event Draft → Option ℕ
moment_of (happens.Pick ring now) = Some now
moment_of (happens.Finish ring now) = Some now
moment_of (happens.Timeout ring now) = Some now
moment_of _ = None

-- the time of a command of this number, behind one of this time: the number, or the greatest moment that was told
abbrev pub time_of : Clock → ℕ → ℕ → Event Draft → ℕ
time_of clock.Command command last event = command
time_of clock.Moment command last event = option_map_or (λ now. max last now) (moment_of event) last

abbrev pub when_of : Clock → ℕ → ℕ → Event Draft → When
when_of by command last event = record { at = time_of by command last event; command = command }

-- the core may give these answers to these events, one step after another, and the trace of it from a command of this
-- number on, behind one of this time, has these entries: what each step adds, in their order
abbrev pub IsTraced : Clock → ℕ → ℕ → CoreState → List (Event Draft) → List Answer → CoreState → List Entry → Type 0
IsTraced by command last old [] [] new entries = (new ≡ old) × (entries ≡ [])
IsTraced by command last old (event ∷ events) (answer ∷ answers) new entries =
    (mid : CoreState) × Step old event answer mid
    × ((behind : List Entry) × (entries ≡ step_entries (when_of by command last event) old event answer mid ++ behind)
    × IsTraced by (later command) (time_of by command last event) mid events answers new behind)
IsTraced by command last old [] (answer ∷ answers) new entries = ⊥
IsTraced by command last old (event ∷ events) [] new entries = ⊥

-- the track of a lane, and of a counter that of its ring
abbrev pub track_of : Lane → ℕ → Track
track_of lane.Wait entity = track.Wait entity
track_of lane.Queue entity = track.Queue entity
track_of lane.Ring ring = track.Ring ring
track_of lane.Buffer buffer = track.Buffer buffer
track_of lane.Credits ring = track.Ring ring
track_of lane.Queued ring = track.Ring ring

-- the names of the tracks of a kind, and of all
abbrev pub names_of_lane : DeviceSpec → Lane → List Entry
names_of_lane spec kind = each (count_of spec kind) (λ number. entry.Name (track_of kind number) ∷ [])

abbrev pub names_of : DeviceSpec → List Entry
names_of spec =
    names_of_lane spec lane.Ring ++ names_of_lane spec lane.Queue ++ names_of_lane spec lane.Wait ++ names_of_lane spec lane.Buffer

-- the text of a trace with these entries behind the names
abbrev pub text_of_trace : DeviceSpec → List Entry → List ℕ
text_of_trace spec entries = HEAD.now ++ flat_map text_of (names_of spec) ++ flat_map text_of entries ++ TAIL.now

-- the text of the trace of a script's events, given in their order to a core that was built for its device and keeps
-- its promises
abbrev pub IsTraceOf : Clock → Script → List ℕ → Type 0
IsTraceOf by script text =
    (answers : List Answer) × (final : CoreState) × (entries : List Entry) × IsTraced by 0 0 (opened script.spec) script.lines answers final entries
    × Promises script.spec final × (text ≡ text_of_trace script.spec entries)

-- what each ending says of a script that was read, and of what the writer holds before and after
abbrev pub TracesScript : Clock → Script → Option (List ℕ) → Option (List ℕ) → Ending → Type 0
TracesScript by script old new ending.Done = (text : List ℕ) × IsTraceOf by script text × Appends old new text
TracesScript by script old new ending.NoMemory = Keeps old new
TracesScript by script old new ending.NoOutput = (text : List ℕ) × IsTraceOf by script text × AppendsFront old new text
TracesScript by script old new other = ⊥

-- what each ending says of the input and of what the writer holds before and after: a trace has no other
abbrev pub Traces : Clock → Option (List ℕ) → Option (List ℕ) → Option (List ℕ) → Ending → Type 0
Traces by input old new ending.Done = SpellsScript input (λ script. TracesScript by script old new ending.Done)
Traces by input old new (ending.Fault fault) = Replays input old new (ending.Fault fault)
Traces by input old new ending.NoMemory = Keeps old new
Traces by input old new ending.NoInput = Keeps old new
Traces by input old new ending.NoOutput = SpellsScript input (λ script. TracesScript by script old new ending.NoOutput)
Traces by input old new other = ⊥
