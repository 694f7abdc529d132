-- Who holds a buffer, by the list of the holders of all.
use Rattle.std.specs.Prelude.{ℕ, Bool, false, ◌==◌, List, Option, option_and_then, slice_get}
use Rattle.std.specs.Option.{option_map_or}

abbrev pub holder_at : List (Option ℕ) → ℕ → Option ℕ
holder_at holders buffer = option_and_then (λ o. o) (slice_get holders buffer)

abbrev pub held_by : List (Option ℕ) → ℕ → ℕ → Bool
held_by holders ctx buffer = option_map_or (λ h. h == ctx) (holder_at holders buffer) false
