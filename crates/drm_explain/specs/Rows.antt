-- The rows of the table.
use Rattle.std.specs.Prelude.{ℕ, List, [], ◌++◌, ◌==◌, Option, find, map, slice_get}
use Rattle.std.specs.Borrow.{Bor}
use Rattle.std.specs.Fmt.{decimal}
use Rattle.std.specs.Option.{option_map_or}
use Rattle.std.specs.Str.{bytes_eq}
use Rattle.drm_explain.specs.declared.table.TheConstants.{CONTEXTS, DEVICES, JOBS, TEXTS}

-- a row: its number, how it is written, what is said of an answer with it in each of its cases, how one gets there,
-- what to do, what the kernel has in its place, and further lines
pub record Row : Type 0 where
  pub number : ℕ
  pub form : List ℕ
  pub sentences : List (List ℕ)
  pub meaning : List ℕ
  pub remedy : List ℕ
  pub kernel : List ℕ
  pub details : List ℕ

-- a row as a constant has it
abbrev pub Kept : Type 0
Kept = ℕ × record { now : List ℕ } × record { now : List (record { now : List ℕ }) } × record { now : List ℕ } × record { now : List ℕ } × record { now : List ℕ } × record { now : List ℕ }

abbrev pub by_texts : Kept → Row
by_texts row = record {
  number = row.0;
  form = row.1.now;
  sentences = map (λ s. s.now) row.2.now;
  meaning = row.3.now;
  remedy = row.4.now;
  kernel = row.5.now;
  details = row.6.now;
}

-- the four parts of the table
unfoldable pub job_rows : List Row
job_rows = map by_texts JOBS

unfoldable pub device_rows : List Row
device_rows = map by_texts DEVICES

unfoldable pub context_rows : List Row
context_rows = map by_texts CONTEXTS

unfoldable pub text_rows : List Row
text_rows = map by_texts TEXTS

-- all rows
unfoldable pub rows : List Row
rows = (job_rows ++ device_rows) ++ (context_rows ++ text_rows)

-- a row as code hands it on
abbrev pub Held : Type 0
Held = ℕ × Bor (List ℕ) × Bor (List (Bor (List ℕ))) × Bor (List ℕ) × Bor (List ℕ) × Bor (List ℕ) × Bor (List ℕ)

abbrev pub told : Held → Row
told row = record {
  number = row.0;
  form = row.1.now;
  sentences = map (λ s. s.now) row.2.now;
  meaning = row.3.now;
  remedy = row.4.now;
  kernel = row.5.now;
  details = row.6.now;
}

-- the row of a number
unfoldable pub row_of : ℕ → Option Row
row_of number = find (λ row. row.number == number) rows

-- the row of the number that a word spells
unfoldable pub row_spelled : List ℕ → Option Row
row_spelled word = find (λ row. bytes_eq (decimal row.number) word) rows

-- the sentence at this place of some, or nothing
abbrev pub sentence_in : List (List ℕ) → ℕ → List ℕ
sentence_in sentences place = option_map_or (λ s. s) (slice_get sentences place) []

-- what the row of a number says of an answer with it, in one of its cases
unfoldable pub sentence_at : ℕ → ℕ → List ℕ
sentence_at number place = option_map_or (λ row. sentence_in row.sentences place) (row_of number) []
