-- What is known of a command that clap refuses nowhere.
use Rattle.std.specs.Prelude.{◌≡◌, ◌⊎◌, ℕ, List, [], ◌∷◌, Some, codes}
use Rattle.clap.specs.Values.{IsUnsignedIn}
use Rattle.clap.specs.Words.{Row, Text, one_of}
use Rattle.drm_command_line.specs.CommandLine.{most_submitters, most_turns}

-- the name is one of these
abbrev pub IsOneOf : List Text → Text → Type 0
IsOneOf [] name = ⊥
IsOneOf (one ∷ rest) name = (name ≡ one) ⊎ IsOneOf rest name

-- the names of the commands
abbrev pub commands : List Text
commands =
    codes "replay" ∷ codes "serial" ∷ codes "check" ∷ codes "run" ∷ codes "explain" ∷ codes "draw" ∷ codes "explore" ∷ codes "why" ∷ codes "test" ∷ codes "conform" ∷ codes "trace" ∷ []

-- the option of this name has a text that its parser accepts
abbrev pub HasNumber : Text → ℕ → List Row → Type 0
HasNumber name most rows = (t : Text) × (one_of name rows ≡ Some t) × IsUnsignedIn 1 most t

-- both options of the command that runs a script are there
abbrev pub HasNumbers : List Row → Type 0
HasNumbers rows = HasNumber (codes "threads") most_submitters rows × HasNumber (codes "turns") most_turns rows

-- the name is that of a command, and if it runs a script, both its options are there
pub record IsKnown (name : Text) (rows : List Row) : Type 0 where
  pub listed : IsOneOf commands name
  pub numbers : name ≡ codes "run" → HasNumbers rows
