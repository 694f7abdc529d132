-- The engines by name.
use Rattle.std.specs.Prelude.{◌≢◌, ℕ, List, Option, codes}
use Rattle.drm_engine.specs.declared.ending.Ending.{Ending}
use Rattle.drm_engine.specs.declared.engine.Engine.{Engine}
use Rattle.drm_engine.specs.declared.engine.Engine.TheVariants as engine
use Rattle.drm_engine.specs.Replaying.{Replays}
use Rattle.drm_engine.specs.Journals.{Serializes, Checks}

-- the word of the command line that names an engine
abbrev pub word_of : Engine → List ℕ
word_of engine.Replay = codes "replay"
word_of engine.Serial = codes "serial"
word_of engine.Check = codes "check"

-- the word is that of no engine
abbrev pub NamesNone : List ℕ → Type 0
NamesNone word = (word ≢ word_of engine.Replay) × (word ≢ word_of engine.Serial) × (word ≢ word_of engine.Check)

-- what each ending of an engine says of the input and of what the writer holds before and after
abbrev pub Runs : Engine → Option (List ℕ) → Option (List ℕ) → Option (List ℕ) → Ending → Type 0
Runs engine.Replay = Replays
Runs engine.Serial = Serializes
Runs engine.Check = Checks
