-- What is written for a word.
use Rattle.std.specs.Prelude.{◌≡◌, ℕ, List, Option, Some, None, flat_map, map}
use Rattle.std.specs.String.{string_bytes}
use Rattle.std.specs.Io.KnownBytes.{Appends, Keeps}
use Rattle.drm_stream.specs.Transfer.{AppendsFront}
use Rattle.drm_engine.specs.declared.ending.Ending.{Ending}
use Rattle.drm_engine.specs.declared.ending.Ending.TheVariants as ending
use Rattle.drm_explain.specs.Numbers.{numbers}
use Rattle.drm_explain.specs.Rows.{Row, row_spelled, rows}
use Rattle.drm_explain.specs.Texts.{line_of, text_of}

-- without a word the text has a line for each row of the table, which has these numbers; else it tells the row with the
-- number that the word spells
abbrev pub IsAnswer : Option (List ℕ) → List ℕ → Type 0
IsAnswer None text = (map (λ row. row.number) rows ≡ numbers) × (text ≡ flat_map line_of rows)
IsAnswer (Some word) text = (row : Row) × (row_spelled word ≡ Some row) × (text ≡ text_of row)

-- what each ending says of what the writer holds before and after: an explanation has no other
abbrev pub Tells : Option (List ℕ) → Option (List ℕ) → Option (List ℕ) → Ending → Type 0
Tells word old new ending.Done = (text : List ℕ) × IsAnswer word text × Appends old new text
Tells word old new (ending.Unexplained said) = (word ≡ Some (string_bytes said)) × (row_spelled (string_bytes said) ≡ None) × Keeps old new
Tells word old new ending.NoMemory = Keeps old new
Tells word old new ending.NoOutput = (text : List ℕ) × IsAnswer word text × AppendsFront old new text
Tells word old new other = ⊥
