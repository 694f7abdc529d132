-- What the words of a command line ask of a log.
use Rattle.std.specs.Prelude.{ℕ, Bool, ◌==◌, nat_lt, List, [], ◌∷◌, ◌++◌, drop, length, option_map, take, Option, Some, None, if◌then◌else◌}
use Rattle.std.specs.List.{position_or_len}
use Rattle.drm_text.specs.Cut.{parts_of}
use Rattle.drm_text.specs.Number.{number_up_to}
use Rattle.drm_text.specs.Reading.{◌>>+◌}
use Rattle.drm_conform.specs.declared.options.Limit.{Limit}
use Rattle.drm_conform.specs.declared.options.Options.{Options}

-- the limit of a ring, where the sign behind its name stands at this place
abbrev pub limit_at : List ℕ → ℕ → Option Limit
limit_at text at =
    if nat_lt at (length text) then option_map (λ most. record { ring = take at text; most = most }) (number_up_to 18446744073709551615 (drop 1 (drop at text)))
    else None

-- the same at its first sign: as in gfx=3
abbrev pub limit_told : List ℕ → Option Limit
limit_told text = limit_at text (position_or_len (λ b. b == 61) text)

-- some limits, and those that further texts tell
unfoldable pub limits_behind : List Limit → List (List ℕ) → Option (List Limit)
limits_behind limits [] = Some limits
limits_behind limits (text ∷ rest) = limit_told text >>+ λ limit. limits_behind (limits ++ limit ∷ []) rest

-- the limits that a text tells, with commas between them
abbrev pub limits_told : List ℕ → Option (List Limit)
limits_told text = limits_behind [] (parts_of 44 text)

-- those that a word tells, or none where there is no word
abbrev pub limits_asked : Option (List ℕ) → Option (List Limit)
limits_asked None = Some []
limits_asked (Some text) = if nat_lt 1048576 (length text) then None else limits_told text

-- the tolerance that a word tells, or none where there is no word
abbrev pub tolerance_asked : Option (List ℕ) → Option ℕ
tolerance_asked None = Some 0
tolerance_asked (Some text) = number_up_to 18446744073709551615 text

-- the options that are asked for
abbrev pub options_asked : Bool → Bool → Option (List ℕ) → Option (List ℕ) → Option Options
options_asked jobs in_order limits tolerance =
    tolerance_asked tolerance >>+ λ near. limits_asked limits >>+ λ most. Some (record { tolerance = near; in_order = in_order; limits = most; jobs = jobs })
