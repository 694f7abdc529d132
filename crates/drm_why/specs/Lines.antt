-- The lines of the life of a job.
use Rattle.std.specs.Prelude.{ℕ, ◌+◌, ◌-◌, List, [], ◌∷◌, ◌++◌, Option, Some, None, codes, drop, flat_map, slice_get}
use Rattle.std.specs.Fmt.{decimal}
use Rattle.std.specs.Option.{option_map_or}
use Rattle.drm_core.specs.declared.event.Event.{Event}
use Rattle.drm_core.specs.Jobs.{job_of}
use Rattle.drm_picture.specs.Commands.{moment_of}
use Rattle.drm_script_writer.specs.Texts.{front_of_command}
use Rattle.drm_state.specs.Journal.{numbered}
use Rattle.drm_state.specs.State.{DeviceState}
use Rattle.drm_reason.specs.declared.reason.Reason.{Reason}
use Rattle.drm_reason.specs.declared.reason.Reason.TheVariants as reason
use Rattle.drm_reason.specs.Said.{said_of}
use Rattle.drm_why.specs.Sentences.{one_in, two_in}
use Rattle.drm_why.specs.Longest.{clock_at_end, commands_of, end_of}
use Rattle.drm_why.specs.Chains.{link_of}
use Rattle.drm_why.specs.declared.chain.Link.{Link}
use Rattle.drm_why.specs.declared.seeing.Change.{Change}

-- a number behind a space
abbrev pub spaced : ℕ → List ℕ
spaced number = 32 ∷ decimal number

-- the text of a command, up to the entity of its job: its word, its numbers, and that entity
abbrev pub text_of_command : Event ℕ → List ℕ
text_of_command command = front_of_command command ++ option_map_or spaced (job_of command) []

-- the moment that a command tells
abbrev pub text_of_moment : Option ℕ → List ℕ
text_of_moment (Some now) = codes ", at moment " ++ decimal now
text_of_moment None = []

-- a change: the number of the command, its text, the moment that it tells, and what is said of the job behind it
unfoldable pub line_of_change : Change → List ℕ
line_of_change change =
    decimal change.place ++ codes " " ++ text_of_command change.command ++ text_of_moment (moment_of change.command)
    ++ codes ": " ++ said_of change.reason ++ codes "\n"

-- how long what began with a change held, up to this place and this moment, in commands and in moments
unfoldable pub line_of_span : Change → ℕ → ℕ → List ℕ
line_of_span change place clock =
    two_in (codes "for ") (place - change.place) (codes " commands and ") (clock - change.clock) ++ codes " moments: "
    ++ said_of change.reason ++ codes "\n"

-- an outcome stays: how long it held is not told
abbrev pub held_text : Reason → List ℕ → List ℕ
held_text (reason.Ended outcome) line = []
held_text other line = line

-- how long what began with a change held, before those behind it
abbrev pub span_text : ℕ → ℕ → Change → List Change → List ℕ
span_text place clock change behind = held_text change.reason (line_of_span change (end_of behind place) (clock_at_end behind clock))

abbrev pub spans_text : ℕ → ℕ → List Change → List ℕ
spans_text place clock [] = []
spans_text place clock (change ∷ behind) = span_text place clock change behind ++ spans_text place clock behind

-- what is told of a job whose reason never changes: it was not armed
abbrev pub head_text : ℕ → List Change → List ℕ
head_text fence [] = one_in (codes "fence ") fence (codes " is not armed\n")
head_text fence (change ∷ changes) = []

-- a job and what is said of it
unfoldable pub line_of_link : Link → List ℕ
line_of_link link = one_in (codes "fence ") link.fence (codes " ") ++ said_of link.reason ++ codes "\n"

-- for how many commands and moments a change held the job up, and by which jobs, one the other
unfoldable pub lines_of_longest : ℕ → ℕ → List Link → List ℕ
lines_of_longest commands moments links =
    two_in (codes "held up longest, for ") commands (codes " commands and ") moments ++ codes " moments, by\n" ++ flat_map line_of_link links

-- so of this change, which has this number
abbrev pub held_by_text : List Change → ℕ → ℕ → ℕ → Change → List ℕ
held_by_text changes place clock number change =
    lines_of_longest (commands_of changes place number) (clock_at_end (drop (number + 1) changes) clock - change.clock) change.links

-- so of the change of a number, where there is one
abbrev pub longest_text : List Change → ℕ → ℕ → Option ℕ → List ℕ
longest_text changes place clock None = []
longest_text changes place clock (Some number) = option_map_or (held_by_text changes place clock number) (slice_get changes number) []

-- the life of a job: its changes, how long each reason held in so many commands, with this moment told last, and by
-- which jobs it was held up longest, where it was
unfoldable pub text_of_life : ℕ → List Change → ℕ → ℕ → Option ℕ → List ℕ
text_of_life fence changes place clock longest =
    head_text fence changes ++ flat_map line_of_change changes ++ spans_text place clock changes ++ longest_text changes place clock longest

-- a line for each job that is armed
abbrev pub text_of_jobs : DeviceState → List ℕ
text_of_jobs device = flat_map (λ n. line_of_link (link_of device n.0)) (numbered device.journal)
