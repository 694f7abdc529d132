-- The entries that are still waited for.
use Rattle.std.specs.Prelude.{ℕ, Bool, not, min, List, [], ◌∷◌, filter, map, Option, Some, None}
use Rattle.std.specs.Option.{option_map_or}
use Rattle.drm_types.specs.declared.access.Usage.{Usage}
use Rattle.drm_resv.specs.declared.entry.Entry.{Entry}
use Rattle.drm_resv.specs.Entries.{entries_of}

-- the least number of a list
abbrev pub least : List ℕ → Option ℕ
least [] = None
least (x ∷ xs) = Some (option_map_or (λ y. min x y) (least xs) x)

-- the least fence of the usage and of all stronger ones that has no outcome
abbrev pub least_active : (ℕ → Bool) → Usage → List Entry → Option ℕ
least_active ended usage entries = least (map (λ e. e.fence) (filter (λ e. not (ended e.fence)) (entries_of usage entries)))

-- the lesser of a number and another, if there is one
abbrev pub lesser : Option ℕ → ℕ → Option ℕ
lesser None x = Some x
lesser (Some y) x = Some (min y x)
