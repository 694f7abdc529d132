-- What contracts see of buffers of which some are out.
use Rattle.std.specs.Prelude.{◌≡◌, ℕ, ◌<◌, Bool, false, List, map, Option, Some, slice_get, slice_set}
use Rattle.std.specs.Option.{option_map_or}

-- the bytes of each buffer as if it were in, and which are out
pub record Stored : Type 0 where
  pub bytes : List (List ℕ)
  pub out : List Bool

-- these buffers, all of them in
abbrev pub all_in : List (List ℕ) → Stored
all_in buffers = record { bytes = buffers; out = map (λ bytes. false) buffers }

-- each of so many buffers is in
abbrev pub AreIn : ℕ → List Bool → Type 0
AreIn count out = (b : ℕ) → b < count → slice_get out b ≡ Some false

-- whether a buffer is out: one that is not there is not
abbrev pub is_out_of : Stored → ℕ → Bool
is_out_of s buffer = option_map_or (λ o. o) (slice_get s.out buffer) false

-- what is marked out where a buffer, if there is one, goes out or comes back
abbrev pub set_out : List Bool → Option ℕ → Bool → List Bool
set_out out buffer is = option_map_or (λ b. slice_set out b is) buffer out
