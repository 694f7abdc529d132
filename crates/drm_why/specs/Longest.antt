-- By what a job was held up longest.
use Rattle.std.specs.Prelude.{◌≡◌, ℕ, ◌+◌, ◌-◌, ◌<◌, ◌≤◌, IsFalse, List, Option, Some, None, drop, slice_get}
use Rattle.std.specs.Option.{option_map_or}
use Rattle.drm_types.specs.Firsts.{first, is_nil}
use Rattle.drm_why.specs.declared.seeing.Change.{Change}

-- where what began with a change ends, and the moment that was told last there: at the next change, or at the end
abbrev pub end_of : List Change → ℕ → ℕ
end_of behind place = option_map_or (λ next. next.place) (first behind) place

abbrev pub clock_at_end : List Change → ℕ → ℕ
clock_at_end behind clock = option_map_or (λ next. next.clock) (first behind) clock

-- for how many commands the reason held that began with the change of this number, of so many commands
abbrev pub commands_of : List Change → ℕ → ℕ → ℕ
commands_of changes place number =
    option_map_or (λ change. end_of (drop (number + 1) changes) place - change.place) (slice_get changes number) 0

-- with the change of this number began a reason that names a job
pub record IsHeld (changes : List Change) (number : ℕ) (change : Change) : Type 0 where
  pub at : slice_get changes number ≡ Some change
  pub held : IsFalse (is_nil change.links)

-- of the changes before a place it is the first of those that held up the job for the most commands
pub record IsLongest (changes : List Change) (place before number : ℕ) (change : Change) : Type 0 where
  pub within : number < before
  pub held : IsHeld changes number change
  pub most : (i : ℕ) (other : Change) → i < before → IsHeld changes i other → commands_of changes place i ≤ commands_of changes place number
  pub first : (i : ℕ) (other : Change) → i < number → IsHeld changes i other → commands_of changes place i < commands_of changes place number

-- so is the one of this number, or no job held this one up before that place
abbrev pub LongestIs : List Change → ℕ → ℕ → Option ℕ → Type 0
LongestIs changes place before (Some number) = (change : Change) × IsLongest changes place before number change
LongestIs changes place before None = (i : ℕ) (other : Change) → i < before → IsHeld changes i other → ⊥
