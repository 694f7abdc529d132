-- Columns: which one each command of a part has, and what those between commands stand for.
use Rattle.std.specs.Prelude.{◌≡◌, ℕ, Bool, false, List, [], ◌∷◌, Option, Some, None, ◌+◌, ◌-◌, ◌/◌, find, length, map, max, nat_lt, option_map, take, unwrap_or}
use Rattle.std.specs.List.{enumerate_from}
use Rattle.std.specs.Option.{option_or}
use Rattle.drm_core.specs.declared.event.Event.{Event}
use Rattle.drm_picture.specs.Commands.{moment_of}
use Rattle.drm_picture.specs.declared.columns.Axis.{Axis}
use Rattle.drm_picture.specs.declared.columns.Axis.TheVariants as axis
use Rattle.drm_picture.specs.declared.columns.Period.{Period}
use Rattle.drm_picture.specs.declared.columns.Scale.{Scale}
use Rattle.drm_picture.specs.declared.columns.Scale.TheVariants as scale

-- the first moment that these commands tell
abbrev pub first_moment : List (Event ℕ) → Option ℕ
first_moment [] = None
first_moment (command ∷ behind) = option_or (moment_of command) (first_moment behind)

-- the last
abbrev pub last_moment : List (Event ℕ) → Option ℕ
last_moment [] = None
last_moment (command ∷ behind) = option_or (last_moment behind) (moment_of command)

-- there are both moments, and the former is before the latter
abbrev pub is_before : Option ℕ → Option ℕ → Bool
is_before (Some now) (Some told) = nat_lt now told
is_before _ _ = false

-- of these commands the one at this place tells a moment that is before the one told last
abbrev pub falls : List (Event ℕ) → ℕ × Event ℕ → Bool
falls commands p = is_before (moment_of p.1) (last_moment (take p.0 commands))

-- the place of the first that does
abbrev pub first_fall : List (Event ℕ) → Option ℕ
first_fall commands = option_map (λ p. p.0) (find (falls commands) (enumerate_from 0 commands))

-- the first and the last moment that these commands tell
pub record IsPeriod (commands : List (Event ℕ)) (period : Period) : Type 0 where
  pub first : period.first ≡ first_moment commands
  pub last : period.last ≡ last_moment commands

-- how many moments pass from the first that these commands tell to the last
abbrev pub duration : List (Event ℕ) → ℕ
duration commands = unwrap_or (last_moment commands) 0 - unwrap_or (first_moment commands) 0

-- for how many moments a column between commands stands: for so many that there are fewer such columns than commands
abbrev pub unit_of : List (Event ℕ) → ℕ
unit_of commands = duration commands / max 1 (length commands) + 1

abbrev pub scale_by_moment : List (Event ℕ) → Option ℕ → Scale
scale_by_moment commands (Some place) = scale.Falling place
scale_by_moment commands None = scale.Moment (unit_of commands)

-- what the columns of these commands stand for
abbrev pub scale_of : Axis → List (Event ℕ) → Scale
scale_of axis.Command commands = scale.Command
scale_of axis.Moment commands = scale_by_moment commands (first_fall commands)

-- the column of the command at this place: one for each command before it, and one for each so many moments that have
-- passed. At the end of the commands, how many columns there are
abbrev pub column_at : Scale → List (Event ℕ) → ℕ → ℕ
column_at (scale.Moment unit) commands place = place + duration (take (place + 1) commands) / unit
column_at _ commands place = place

-- the columns of these commands, in their order
abbrev pub columns_of : Scale → List (Event ℕ) → List ℕ
columns_of scale commands = map (λ p. column_at scale commands p.0) (enumerate_from 0 commands)
