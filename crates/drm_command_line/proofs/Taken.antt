-- A command line of two words, the program's name and the word of an engine.
use Rattle.std.proofs.Common.{◌≡◌, ◌∙◌, Bool, List, true, false, [], ◌∷◌, Some, option_map, sym, codes, refl, ap, slice_index, ◌==◌}
use Rattle.std.specs.Str.{bytes_eq}
use Rattle.std.proofs.lemmas.Option.{same_Some}
use Rattle.std.proofs.lemmas.Slice.Eq.{bytes_eq-Decides}
use Rattle.std.proofs.lemmas.Bool.{true≢false}
use Rattle.clap.specs.Words.{Row, Text, subcommand_of, takes}
use Rattle.clap.proofs.OnLiterals.{clap_on_literals}
use Rattle.drm_engine.specs.Engines.{word_of}
use Rattle.drm_engine.specs.declared.engine.Engine.{Engine}
use Rattle.drm_engine.specs.declared.engine.Engine.TheVariants as engine
use Rattle.drm_command_line.specs.CommandLine.{Asks, IsAsked, IsCommandLineForWords, IsCommandLineOf, is_set, program_app}
use Rattle.drm_command_line.specs.declared.request.Request.{Request}
use Rattle.drm_command_line.specs.declared.request.Request.TheVariants.{Run, ReplayWithWords, ReplayAsJournal, Work, Explain, Draw, Explore, Why, Test, Conform, Trace}

pub is_taken : (name : Text) (engine : Engine) → takes program_app (name ∷ word_of engine ∷ []) ≡ true
unfolding clap_on_literals
is_taken name engine.Replay = refl
is_taken name engine.Serial = refl
is_taken name engine.Check = refl

-- the name of a command, and whether its flags for words and for the journal are on
abbrev named_with : Text × List Row → Text × (Bool × Bool)
named_with p = (p.0, (is_set (codes "words") p.1, is_set (codes "journal") p.1))

-- it names the engine, and asks for no words beside the answers and for no journal
pub is_bare : (name : Text) (engine : Engine) → option_map named_with (subcommand_of program_app (name ∷ word_of engine ∷ [])) ≡ Some (word_of engine, (false, false))
unfolding clap_on_literals
is_bare name engine.Replay = refl
is_bare name engine.Serial = refl
is_bare name engine.Check = refl

-- with the flag it does
pub is_flag_taken : (name : Text) → takes program_app (name ∷ codes "replay" ∷ codes "--words" ∷ []) ≡ true
unfolding clap_on_literals
is_flag_taken name = refl

pub is_worded : (name : Text)
    → option_map named_with (subcommand_of program_app (name ∷ codes "replay" ∷ codes "--words" ∷ [])) ≡ Some (codes "replay", (true, false))
unfolding clap_on_literals
is_worded name = refl

-- a word names one engine
pub names_one : (a b : Engine) → word_of a ≡ word_of b → a ≡ b
names_one engine.Replay engine.Replay same = refl
names_one engine.Serial engine.Serial same = refl
names_one engine.Check engine.Check same = refl
names_one engine.Replay engine.Serial same = absurd (true≢false (ap (λ (t : Text). slice_index t 0 == 114) same))
names_one engine.Replay engine.Check same = absurd (true≢false (ap (λ (t : Text). slice_index t 0 == 114) same))
names_one engine.Serial engine.Replay same = absurd (true≢false (ap (λ (t : Text). slice_index t 0 == 115) same))
names_one engine.Serial engine.Check same = absurd (true≢false (ap (λ (t : Text). slice_index t 0 == 115) same))
names_one engine.Check engine.Replay same = absurd (true≢false (ap (λ (t : Text). slice_index t 0 == 99) same))
names_one engine.Check engine.Serial same = absurd (true≢false (ap (λ (t : Text). slice_index t 0 == 99) same))

-- a word that is none of the three is that of no engine
other_word : (word : Text) → bytes_eq (codes "replay") word ≡ false → bytes_eq (codes "serial") word ≡ false → bytes_eq (codes "check") word ≡ false → (engine : Engine) → word_of engine ≡ word → ⊥
other_word word a b c engine.Replay same = true≢false (sym ((bytes_eq-Decides (codes "replay") word).1 same) ∙ a)
other_word word a b c engine.Serial same = true≢false (sym ((bytes_eq-Decides (codes "serial") word).1 same) ∙ b)
other_word word a b c engine.Check same = true≢false (sym ((bytes_eq-Decides (codes "check") word).1 same) ∙ c)

-- where a command names an engine, and has neither flag if that answers scripts, what it asks for is the engine
only_engine : (engine : Engine) (name : Text) (rows : List Row) (request : Request) → name ≡ word_of engine → is_set (codes "words") rows ≡ false → is_set (codes "journal") rows ≡ false
    → Asks name rows request → request ≡ Run engine
only_engine engine name rows (Run other) is words journal asks = ap Run (names_one other engine (sym asks.0 ∙ is))
only_engine engine name rows ReplayWithWords is words journal asks = absurd (true≢false (sym asks.1 ∙ words))
only_engine engine name rows ReplayAsJournal is words journal asks = absurd (true≢false (sym asks.2 ∙ journal))
only_engine engine name rows (Work submitters turns) is words journal asks = absurd (other_word (codes "run") refl refl refl engine (sym is ∙ asks.0))
only_engine engine name rows (Explain word) is words journal asks = absurd (other_word (codes "explain") refl refl refl engine (sym is ∙ asks.0))
only_engine engine name rows (Draw from to by) is words journal asks = absurd (other_word (codes "draw") refl refl refl engine (sym is ∙ asks.0))
only_engine engine name rows (Explore backs_off reaps most stuck reached cover) is words journal asks = absurd (other_word (codes "explore") refl refl refl engine (sym is ∙ asks.0))
only_engine engine name rows (Why fence all rings) is words journal asks = absurd (other_word (codes "why") refl refl refl engine (sym is ∙ asks.0))
only_engine engine name rows (Test lowers) is words journal asks = absurd (other_word (codes "test") refl refl refl engine (sym is ∙ asks.0))
only_engine engine name rows (Conform jobs in_order limits tolerance) is words journal asks = absurd (other_word (codes "conform") refl refl refl engine (sym is ∙ asks.0))
only_engine engine name rows (Trace by_command) is words journal asks = absurd (other_word (codes "trace") refl refl refl engine (sym is ∙ asks.0))

-- words that are the program's name and an engine's ask for the engine
pub engine_alone : (words : List Text) (engine : Engine) (request : Request) → IsCommandLineOf engine words → IsAsked words request → request ≡ Run engine
engine_alone words engine request line asked =
    let found : subcommand_of program_app (line.0 ∷ word_of engine ∷ []) ≡ Some (asked.0, asked.1) = sym (ap (subcommand_of program_app) line.1) ∙ asked.2 in
    let pair = same_Some (named_with (asked.0, asked.1)) (word_of engine, (false, false)) (sym (ap (option_map named_with) found) ∙ is_bare line.0 engine) in
    only_engine engine asked.0 asked.1 request (ap (λ (p : Text × (Bool × Bool)). p.0) pair) (ap (λ (p : Text × (Bool × Bool)). p.1.0) pair) (ap (λ (p : Text × (Bool × Bool)). p.1.1) pair) asked.3

-- where a command answers scripts and has the flag for words, it asks for words
only_words : (name : Text) (rows : List Row) (request : Request) → name ≡ codes "replay" → is_set (codes "words") rows ≡ true → Asks name rows request → request ≡ ReplayWithWords
only_words name rows (Run other) is words asks = absurd (true≢false (sym words ∙ (asks.1 is).0))
only_words name rows ReplayWithWords is words asks = refl
only_words name rows ReplayAsJournal is words asks = absurd (true≢false (sym words ∙ asks.1))
only_words name rows (Work submitters turns) is words asks = absurd (other_word (codes "run") refl refl refl engine.Replay (sym is ∙ asks.0))
only_words name rows (Explain word) is words asks = absurd (other_word (codes "explain") refl refl refl engine.Replay (sym is ∙ asks.0))
only_words name rows (Draw from to by) is words asks = absurd (other_word (codes "draw") refl refl refl engine.Replay (sym is ∙ asks.0))
only_words name rows (Explore backs_off reaps most stuck reached cover) is words asks = absurd (other_word (codes "explore") refl refl refl engine.Replay (sym is ∙ asks.0))
only_words name rows (Why fence all rings) is words asks = absurd (other_word (codes "why") refl refl refl engine.Replay (sym is ∙ asks.0))
only_words name rows (Test lowers) is words asks = absurd (other_word (codes "test") refl refl refl engine.Replay (sym is ∙ asks.0))
only_words name rows (Conform jobs in_order limits tolerance) is words asks = absurd (other_word (codes "conform") refl refl refl engine.Replay (sym is ∙ asks.0))
only_words name rows (Trace by_command) is words asks = absurd (other_word (codes "trace") refl refl refl engine.Replay (sym is ∙ asks.0))

-- words that are the program's name, `replay` and the flag ask for words
pub words_alone : (words : List Text) (request : Request) → IsCommandLineForWords words → IsAsked words request → request ≡ ReplayWithWords
words_alone words request line asked =
    let found : subcommand_of program_app (line.0 ∷ codes "replay" ∷ codes "--words" ∷ []) ≡ Some (asked.0, asked.1) = sym (ap (subcommand_of program_app) line.1) ∙ asked.2 in
    let pair = same_Some (named_with (asked.0, asked.1)) (codes "replay", (true, false)) (sym (ap (option_map named_with) found) ∙ is_worded line.0) in
    only_words asked.0 asked.1 request (ap (λ (p : Text × (Bool × Bool)). p.0) pair) (ap (λ (p : Text × (Bool × Bool)). p.1.0) pair) asked.3
