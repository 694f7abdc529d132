-- The words of the command line.
use Rattle.std.specs.Prelude.{◌≡◌, ◌<◌, ◌≤◌, ℕ, Bool, List, [], ◌∷◌, Option, Some, Result, MatchResult, codes, not, option_map, true, false}
use Rattle.std.specs.Borrow.{Bor}
use Rattle.std.specs.Option.{option_map_or}
use Rattle.std.specs.Str.{bytes_eq}
use Rattle.std.specs.Str.Parse.{digits_value, without_leading_plus}
use Rattle.clap.specs.Words.{App, Row, Rule, Text, first_of, new_app, new_rule, one_of, subcommand_of, with_rule, with_subcommand, kind_of}
use Rattle.clap.specs.declared.builder.action.ArgAction.TheVariants.{SetTrue}
use Rattle.clap.specs.declared.builder.value_parser.ValueParser.TheVariants as vp
use Rattle.clap.specs.declared.error.Error.{Error}
use Rattle.clap.specs.declared.error.kind.ErrorKind.TheVariants.{OutOfMemory}
use Rattle.drm_engine.specs.Engines.{word_of}
use Rattle.drm_engine.specs.declared.engine.Engine.{Engine}
use Rattle.drm_command_line.specs.declared.request.Request.{Request}
use Rattle.drm_command_line.specs.declared.request.Request.TheVariants.{Run, ReplayWithWords, ReplayAsJournal, Work, Explain, Draw, Explore, Why, Test, Conform, Trace}

-- ---- the program, as clap reads it

-- the program without its commands
abbrev pub top_app : App
top_app = record {
  top = record (new_app (codes "drmsim")).top { has_version = true; subcommand_required = true };
  subs = [];
}

-- a flag that may be there
abbrev pub flag_rule : Text → Rule
flag_rule name = record (new_rule name) { long = Some name; action = Some SetTrue }

-- an option that may be there, a text
abbrev pub text_rule : Text → Rule
text_rule name = record (new_rule name) { long = Some name; value_names = 1 }

-- a word that may follow the command
abbrev pub word_rule : Text → Rule
word_rule name = record (new_rule name) { value_names = 1 }

-- an option that has to be there, a whole number from 1 to the most
abbrev pub number_rule : Text → ℕ → Rule
number_rule name most = record (new_rule name) {
  long = Some name;
  value_names = 1;
  parser = Some (vp.Unsigned 1 most);
  required = true;
}

-- the most submitters, and the most turns of a worker
abbrev pub most_submitters : ℕ
most_submitters = 16

abbrev pub most_turns : ℕ
most_turns = 1000000000

-- answers a script, with words beside the answers or as the journal of what it did
abbrev pub replay_app : App
replay_app = with_rule (with_rule (new_app (codes "replay")) (flag_rule (codes "words"))) (flag_rule (codes "journal"))

-- runs a script by workers in threads
abbrev pub run_app : App
run_app = with_rule (with_rule (new_app (codes "run")) (number_rule (codes "threads") most_submitters)) (number_rule (codes "turns") most_turns)

-- explains a number, which may follow it
abbrev pub explain_app : App
explain_app = with_rule (new_app (codes "explain")) (word_rule (codes "number"))

-- draws a part of a run, by what a word names
abbrev pub draw_app : App
draw_app = with_rule (with_rule (with_rule (new_app (codes "draw")) (text_rule (codes "from"))) (text_rule (codes "to"))) (text_rule (codes "by"))

-- explores all orders of a script by these rules, as many states at most
abbrev pub orders_app : App
orders_app = with_rule (with_rule (with_rule (new_app (codes "explore")) (flag_rule (codes "mutex"))) (flag_rule (codes "no-reap"))) (text_rule (codes "states"))

-- and writes a script that leads to a stuck state, or to a final, or scripts that together make each move
abbrev pub explore_app : App
explore_app = with_rule (with_rule (with_rule orders_app (flag_rule (codes "stuck"))) (text_rule (codes "final"))) (flag_rule (codes "cover"))

-- tells why the job of a fence waits, which may follow it, or all jobs, or the rings
abbrev pub why_app : App
why_app = with_rule (with_rule (with_rule (new_app (codes "why")) (word_rule (codes "fence"))) (flag_rule (codes "all"))) (flag_rule (codes "rings"))

-- compares a script's answers with those that it expects, or writes it without these
abbrev pub test_app : App
test_app = with_rule (new_app (codes "test")) (flag_rule (codes "lower"))

-- judges the log of a kernel
abbrev pub conform_app : App
conform_app =
    with_rule
    (with_rule (with_rule (with_rule (new_app (codes "conform")) (flag_rule (codes "jobs"))) (flag_rule (codes "in-order"))) (text_rule (codes "limit")))
    (text_rule (codes "tolerance"))

-- writes a trace of a run
abbrev pub trace_app : App
trace_app = with_rule (new_app (codes "trace")) (flag_rule (codes "commands"))

-- the program with the commands that write answers and journals
abbrev pub core_app : App
core_app = with_subcommand (with_subcommand (with_subcommand (with_subcommand (with_subcommand top_app replay_app.top) (new_app (codes "serial")).top) (new_app (codes "check")).top) run_app.top) explain_app.top

-- the program with all its commands
abbrev pub program_app : App
program_app = with_subcommand (with_subcommand (with_subcommand (with_subcommand (with_subcommand (with_subcommand core_app draw_app.top) explore_app.top) why_app.top) test_app.top) conform_app.top) trace_app.top

-- ---- what is asked for

-- whether a flag is on, in what clap finds of a command
abbrev pub is_set : Text → List Row → Bool
is_set name rows = option_map_or (λ t. bytes_eq t (codes "true")) (one_of name rows) false

-- this word stands behind an option, or where an argument may follow the command, or none does
abbrev pub Gives : Text → List Row → Option (Bor Text) → Type 0
Gives name rows word = first_of name rows ≡ option_map (λ w. w.now) word

-- the option of this name is the number n, which is from 1 to the most
abbrev pub IsNumber : Text → ℕ → List Row → ℕ → Type 0
IsNumber name most rows n =
    ((text : Text) × (one_of name rows ≡ Some text) × (digits_value 10 (without_leading_plus text) ≡ n)) × ((0 < n) × (n ≤ most))

-- a command of this name, of whose arguments clap finds this, asks for it
abbrev pub Asks : Text → List Row → Request → Type 0
Asks name rows (Run engine) = (name ≡ word_of engine) × (name ≡ codes "replay" → (is_set (codes "words") rows ≡ false) × (is_set (codes "journal") rows ≡ false))
Asks name rows ReplayWithWords = (name ≡ codes "replay") × (is_set (codes "words") rows ≡ true)
Asks name rows ReplayAsJournal = (name ≡ codes "replay") × (is_set (codes "words") rows ≡ false) × (is_set (codes "journal") rows ≡ true)
Asks name rows (Work submitters turns) =
    (name ≡ codes "run") × IsNumber (codes "threads") most_submitters rows submitters × IsNumber (codes "turns") most_turns rows turns
Asks name rows (Explain word) = (name ≡ codes "explain") × Gives (codes "number") rows word
Asks name rows (Draw from to by) = (name ≡ codes "draw") × Gives (codes "from") rows from × Gives (codes "to") rows to × Gives (codes "by") rows by
Asks name rows (Explore backs_off reaps most stuck reached cover) =
    (name ≡ codes "explore") × (backs_off ≡ not (is_set (codes "mutex") rows)) × (reaps ≡ not (is_set (codes "no-reap") rows)) × Gives (codes "states") rows most
    × (stuck ≡ is_set (codes "stuck") rows) × Gives (codes "final") rows reached × (cover ≡ is_set (codes "cover") rows)
Asks name rows (Why fence all rings) =
    (name ≡ codes "why") × Gives (codes "fence") rows fence × (all ≡ is_set (codes "all") rows) × (rings ≡ is_set (codes "rings") rows)
Asks name rows (Test lowers) = (name ≡ codes "test") × (lowers ≡ is_set (codes "lower") rows)
Asks name rows (Conform jobs in_order limits tolerance) =
    (name ≡ codes "conform") × (jobs ≡ is_set (codes "jobs") rows) × (in_order ≡ is_set (codes "in-order") rows) × Gives (codes "limit") rows limits × Gives (codes "tolerance") rows tolerance
Asks name rows (Trace by_command) = (name ≡ codes "trace") × (by_command ≡ is_set (codes "commands") rows)

-- clap finds in the words what asks for it
abbrev pub IsAsked : List Text → Request → Type 0
IsAsked words request = (name : Text) × (rows : List Row) × (subcommand_of program_app words ≡ Some (name, rows)) × Asks name rows request

-- something is asked for
abbrev pub IsAnythingAsked : List Text → Type 0
IsAnythingAsked words = (request : Request) × IsAsked words request

-- the words are the program's name and the word of the engine
abbrev pub IsCommandLineOf : Engine → List Text → Type 0
IsCommandLineOf engine words = (name : Text) × (words ≡ name ∷ word_of engine ∷ [])

-- the words are the program's name, the word of `replay` and the flag
abbrev pub IsCommandLineForWords : List Text → Type 0
IsCommandLineForWords words = (name : Text) × (words ≡ name ∷ codes "replay" ∷ codes "--words" ∷ [])

-- this is asked for, unless memory was refused
abbrev pub GivesAlone : Request → Result Request Error → Type 0
GivesAlone request result = MatchResult result (λ found. found ≡ request) (λ error. kind_of error ≡ OutOfMemory)
