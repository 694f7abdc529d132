-- What each request comes to, and the exit status of the program.
use Rattle.std.specs.Prelude.{◌≡◌, ◌⊎◌, ◌<◌, ◌≤◌, ℕ, Bool, true, false, List, Option, Some, None, codes, option_map, if◌then◌else◌}
use Rattle.std.specs.Option.{option_map_or}
use Rattle.std.specs.Str.{bytes_eq}
use Rattle.clap.specs.Words.{IsAmong, Kinds, Text}
use Rattle.clap.specs.declared.error.kind.ErrorKind.{ErrorKind}
use Rattle.clap.specs.declared.error.kind.ErrorKind.TheVariants as kind
use Rattle.drm_text.specs.Number.{number_up_to}
use Rattle.drm_stream.specs.Streams.{SinkState, SourceState}
use Rattle.drm_engine.specs.declared.ending.Ending.{Ending}
use Rattle.drm_engine.specs.declared.ending.Ending.TheVariants as ending
use Rattle.drm_engine.specs.Engines.{Runs}
use Rattle.drm_words.specs.Replaying.{ReplaysWithWords}
use Rattle.drm_script_writer.specs.Recording.{Records}
use Rattle.drm_run.specs.Runs as worked
use Rattle.drm_explain.specs.Telling.{Tells}
use Rattle.drm_picture.specs.declared.columns.Axis.{Axis}
use Rattle.drm_picture.specs.declared.columns.Axis.TheVariants as axis
use Rattle.drm_draw.specs.Drawing.{Draws}
use Rattle.drm_explore.specs.Exploring.{Explores}
use Rattle.drm_explore.specs.declared.exploring.Wanted.{Wanted}
use Rattle.drm_explore.specs.declared.exploring.Wanted.TheVariants as wanted
use Rattle.drm_why.specs.Whys.{Whys}
use Rattle.drm_why.specs.declared.asking.Question.{Question}
use Rattle.drm_why.specs.declared.asking.Question.TheVariants as question
use Rattle.drm_expect.specs.Testing.{Lowers, Tests}
use Rattle.drm_conform.specs.declared.options.Options as judge
use Rattle.drm_conform.specs.Judging as judging
use Rattle.drm_conform.specs.Asked.{options_asked}
use Rattle.drm_perfetto.specs.Traces.{Traces}
use Rattle.drm_perfetto.specs.declared.clock.Clock.{Clock}
use Rattle.drm_perfetto.specs.declared.clock.Clock.TheVariants as clock
use Rattle.drm_command_line.specs.CommandLine.{IsAsked, most_submitters}
use Rattle.drm_command_line.specs.declared.request.Request.{Request}
use Rattle.drm_command_line.specs.declared.request.Request.TheVariants as request
use Rattle.drmsim.specs.Outcomes.{Ends, EndsInWords, EndsSo, status_of_outcome}
use Rattle.drmsim.specs.declared.outcome.Outcome.{Outcome}
use Rattle.drmsim.specs.declared.outcome.Outcome.TheVariants as outcome

-- the number that a word spells, of 32 bits, or another where there is no word
abbrev pub number_of_word : ℕ → Option Text → Option ℕ
number_of_word other word = option_map_or (λ text. number_up_to 4294967295 text) word (Some other)

-- neither the source nor the sink was used
abbrev pub IsUnused : SourceState → SourceState → SinkState → SinkState → Type 0
IsUnused before after old new = (after ≡ before) × (new ≡ old)

-- what each ending of a drawing says for which a word spells no number
abbrev pub DrawsNothing : SourceState → SourceState → SinkState → SinkState → Ending → Type 0
DrawsNothing before after old new ending.NoCount = IsUnused before after old new
DrawsNothing before after old new ending.NoMemory = IsUnused before after old new
DrawsNothing before after old new other = ⊥

-- what each ending of a drawing along this axis says of the part between two numbers, if there are both
abbrev pub DrawsBetween : Axis → Option ℕ → Option ℕ → SourceState → SourceState → SinkState → SinkState → Ending → Type 0
DrawsBetween axis (Some from) (Some to) before after old new ended = Draws axis from to before.remaining old.contents new.contents ended
DrawsBetween axis (Some from) None before after old new ended = DrawsNothing before after old new ended
DrawsBetween axis None to before after old new ended = DrawsNothing before after old new ended

-- what goes from left to right in a drawing, by a word: commands where there is none
abbrev pub axis_of_text : Text → Option Axis
axis_of_text text = if bytes_eq text (codes "command") then Some axis.Command else if bytes_eq text (codes "moment") then Some axis.Moment else None

abbrev pub axis_asked : Option Text → Option Axis
axis_asked word = option_map_or axis_of_text word (Some axis.Command)

-- what each outcome of a drawing says for which a word names no axis
abbrev pub DrawsAlongNothing : SourceState → SourceState → SinkState → SinkState → Outcome → Type 0
DrawsAlongNothing before after old new outcome.NoAxis = IsUnused before after old new
DrawsAlongNothing before after old new (outcome.Ended ending.NoMemory) = IsUnused before after old new
DrawsAlongNothing before after old new other = ⊥

-- what each outcome of a drawing says of an axis and two numbers, if words spell them
abbrev pub DrawsAsked : Option Axis → Option ℕ → Option ℕ → SourceState → SourceState → SinkState → SinkState → Outcome → Type 0
DrawsAsked (Some axis) from to before after old new came = Ends (DrawsBetween axis from to before after old new) came
DrawsAsked None from to before after old new came = DrawsAlongNothing before after old new came

-- what is wanted of all orders: a script to a stuck state, else a cover, else a script to the final that a word spells,
-- else the table
abbrev pub wanted_asked : Bool → Bool → Option Text → Option Wanted
wanted_asked true cover reached = Some wanted.Stuck
wanted_asked false true reached = Some wanted.Cover
wanted_asked false false None = Some wanted.Table
wanted_asked false false (Some text) = option_map (λ number. wanted.Final number) (number_up_to 4294967295 text)

-- what each outcome of an exploration says for which a word spells no number
abbrev pub ExploresNothing : SourceState → SourceState → SinkState → SinkState → Outcome → Type 0
ExploresNothing before after old new (outcome.Ended ending.NoStates) = IsUnused before after old new
ExploresNothing before after old new (outcome.Ended ending.NoMemory) = IsUnused before after old new
ExploresNothing before after old new outcome.NoFinal = IsUnused before after old new
ExploresNothing before after old new other = ⊥

-- what each outcome of an exploration says of a number of states and of what is wanted, if words spell them
abbrev pub ExploresAsked : Bool → Bool → Option ℕ → Option Wanted → SourceState → SourceState → SinkState → SinkState → Outcome → Type 0
ExploresAsked backs_off reaps (Some most) (Some told) before after old new came =
    Ends (Explores (record { backs_off = backs_off; reaps = reaps; most = most; wanted = told }) before.remaining old.contents new.contents) came
ExploresAsked backs_off reaps (Some most) None before after old new came = ExploresNothing before after old new came
ExploresAsked backs_off reaps None told before after old new came = ExploresNothing before after old new came

-- the question that a word and two flags ask: of all jobs, else of the rings, else of the job of a fence
abbrev pub question_asked : Option Text → Bool → Bool → Option Question
question_asked fence true rings = Some question.Jobs
question_asked fence false true = Some question.Rings
question_asked None false false = None
question_asked (Some text) false false = option_map (λ number. question.Job number) (number_up_to 4294967295 text)

-- what each outcome says for which no question is asked
abbrev pub AsksNothing : SourceState → SourceState → SinkState → SinkState → Outcome → Type 0
AsksNothing before after old new outcome.NoFence = IsUnused before after old new
AsksNothing before after old new (outcome.Ended ending.NoMemory) = IsUnused before after old new
AsksNothing before after old new other = ⊥

-- what each outcome says of a question, if there is one
abbrev pub WhysAsked : Option Question → SourceState → SourceState → SinkState → SinkState → Outcome → Type 0
WhysAsked (Some asked) before after old new came = Ends (Whys asked before.remaining old.contents new.contents) came
WhysAsked None before after old new came = AsksNothing before after old new came

-- what each outcome says for which words spell no limits or no tolerance
abbrev pub JudgesNothing : SourceState → SourceState → SinkState → SinkState → Outcome → Type 0
JudgesNothing before after old new outcome.NoLimits = IsUnused before after old new
JudgesNothing before after old new (outcome.Ended ending.NoMemory) = IsUnused before after old new
JudgesNothing before after old new other = ⊥

-- what each outcome says of a log that is judged
abbrev pub JudgesBy : judge.Options → SourceState → SourceState → SinkState → SinkState → Outcome → Type 0
JudgesBy options before after old new (outcome.Judged judged) = judging.Tells options before.remaining old.contents new.contents judged.ending
JudgesBy options before after old new (outcome.Ended ending.NoMemory) = IsUnused before after old new
JudgesBy options before after old new other = ⊥

-- what each outcome says of the options that are asked for, if words spell them
abbrev pub JudgesAsked : Option judge.Options → SourceState → SourceState → SinkState → SinkState → Outcome → Type 0
JudgesAsked (Some options) before after old new came = JudgesBy options before after old new came
JudgesAsked None before after old new came = JudgesNothing before after old new came

-- what each ending says of a script that is tested, or written without what it expects
abbrev pub TestsScript : Bool → Option (List ℕ) → Option (List ℕ) → Option (List ℕ) → Ending → Type 0
TestsScript true input old new ended = Lowers input old new ended
TestsScript false input old new ended = Tests input old new ended

-- what is taken for the time of a command
abbrev pub clock_asked : Bool → Clock
clock_asked true = clock.Command
clock_asked false = clock.Moment

-- what each outcome says of what was asked for: an explanation reads nothing, a drawing goes from the first command
-- where there is no first word, and to the last where there is no second, and an exploration takes a million states
-- where there is no word
abbrev pub Does : Request → SourceState → SourceState → SinkState → SinkState → Outcome → Type 0
Does (request.Run engine) before after old new came = Ends (Runs engine before.remaining old.contents new.contents) came
Does request.ReplayWithWords before after old new came = EndsInWords (ReplaysWithWords before.remaining old.contents new.contents) came
Does request.ReplayAsJournal before after old new came = Ends (Records before.remaining old.contents new.contents) came
Does (request.Work submitters turns) before after old new came = Ends (worked.Runs submitters turns before.remaining old.contents new.contents) came
Does (request.Explain word) before after old new came = (after ≡ before) × Ends (Tells (option_map (λ w. w.now) word) old.contents new.contents) came
Does (request.Draw from to by) before after old new came =
    DrawsAsked (axis_asked (option_map (λ w. w.now) by)) (number_of_word 0 (option_map (λ w. w.now) from)) (number_of_word 4294967295 (option_map (λ w. w.now) to)) before after old new came
Does (request.Explore backs_off reaps most stuck reached cover) before after old new came =
    ExploresAsked backs_off reaps (number_of_word 1000000 (option_map (λ w. w.now) most)) (wanted_asked stuck cover (option_map (λ w. w.now) reached)) before after old new came
Does (request.Why fence all rings) before after old new came = WhysAsked (question_asked (option_map (λ w. w.now) fence) all rings) before after old new came
Does (request.Test lowers) before after old new came =
    Ends (TestsScript lowers before.remaining old.contents new.contents) came
Does (request.Conform jobs in_order limits tolerance) before after old new came =
    JudgesAsked (options_asked jobs in_order (option_map (λ w. w.now) limits) (option_map (λ w. w.now) tolerance)) before after old new came
Does (request.Trace by_command) before after old new came = Ends (Traces (clock_asked by_command) before.remaining old.contents new.contents) came

-- what was asked for was done to an outcome, of which this is the exit status, by what became of its reads and writes
abbrev pub EndsAs : Request → SourceState → SourceState → SinkState → SinkState → ℕ → Type 0
EndsAs asked before after old new status =
    (came : Outcome) × Does asked before after old new came × EndsSo before after old new came × (status ≡ status_of_outcome came)

-- the words ask for something, which ended as this exit status tells
abbrev pub IsObeyed : List Text → SourceState → SourceState → SinkState → SinkState → ℕ → Type 0
IsObeyed words before after old new status = (asked : Request) × IsAsked words asked × EndsAs asked before after old new status

-- there are as many submitters as there may be, where some are asked for
abbrev pub MayHappen : Request → Type 0
MayHappen (request.Work submitters turns) = (0 < submitters) × (submitters ≤ most_submitters)
MayHappen other = Unit {0}

-- the exit status after an error of the words, which was printed or could not be: help and the version are asked for
abbrev pub status_of_error : ErrorKind → Bool → ℕ
status_of_error kind.OutOfMemory is_printed = 3
status_of_error kind.DisplayHelp is_printed = if is_printed then 0 else 4
status_of_error kind.DisplayVersion is_printed = if is_printed then 0 else 4
status_of_error _ is_printed = 2

-- the exit status of words that are refused by one of these kinds, or for want of memory
abbrev pub IsRefusal : Kinds → ℕ → Type 0
IsRefusal kinds status =
    (found : ErrorKind) × ((found ≡ kind.OutOfMemory) ⊎ IsAmong found kinds) × ((is_printed : Bool) × (status ≡ status_of_error found is_printed))
