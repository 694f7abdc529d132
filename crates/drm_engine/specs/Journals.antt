-- Engines over journals: what is written is what the serial machine has to say of the journal that is read.
use Rattle.std.specs.Prelude.{◌≡◌, ℕ, List, Option, Ok, Err, IfSome}
use Rattle.std.specs.Io.KnownBytes.{Appends, Keeps}
use Rattle.drm_journal.specs.Journal.{JournalParts, judge_journal}
use Rattle.drm_stream.specs.Transfer.{AppendsFront}
use Rattle.drm_engine.specs.declared.comparison.Comparison.{Comparison}
use Rattle.drm_engine.specs.declared.comparison.Comparison.TheVariants as comparison
use Rattle.drm_engine.specs.declared.ending.Ending.{Ending}
use Rattle.drm_engine.specs.declared.ending.Ending.TheVariants as ending
use Rattle.drm_engine.specs.Comparing.{Compares, text_of_comparison}
use Rattle.drm_journal.specs.Leaving.{left_by}
use Rattle.drm_engine.specs.Leaving.{text_of_buffers}

-- a journal that the input spells where it is known, and of which this holds
abbrev pub Spells : Option (List ℕ) → (JournalParts → Type 0) → Type 0
Spells input Hold = (journal : JournalParts) × IfSome input (λ text. judge_journal text ≡ Ok journal) × Hold journal

-- what each ending of `serial` says of the input and of what the writer holds before and after: it has no other
abbrev pub Serializes : Option (List ℕ) → Option (List ℕ) → Option (List ℕ) → Ending → Type 0
Serializes input old new ending.Done = Spells input (λ journal. Appends old new (text_of_buffers (left_by journal)))
Serializes input old new (ending.Fault fault) = IfSome input (λ text. judge_journal text ≡ Err fault) × Keeps old new
Serializes input old new ending.NoInput = Keeps old new
Serializes input old new ending.NoMemory = Keeps old new
Serializes input old new ending.NoOutput = Spells input (λ journal. AppendsFront old new (text_of_buffers (left_by journal)))
Serializes input old new other = ⊥

-- the comparison of what a journal leaves with its last bytes, where this holds of the comparison
abbrev pub Finds : JournalParts → (Comparison → Type 0) → Type 0
Finds journal Hold = (found : Comparison) × Compares (left_by journal) journal.finals found × Hold found

-- how a comparison ends
abbrev pub ending_of : Comparison → Ending
ending_of comparison.Same = ending.Done
ending_of (comparison.Differs buffer byte) = ending.Differs

-- the input's journal was compared, the ending tells whether it differs, and the writer gained the line that tells it
abbrev pub IsCompared : Option (List ℕ) → Option (List ℕ) → Option (List ℕ) → Ending → Type 0
IsCompared input old new told =
    Spells input (λ journal. Finds journal (λ found. (ending_of found ≡ told) × Appends old new (text_of_comparison found)))

-- what each ending of `check` says of the input and of what the writer holds before and after: it has no other
abbrev pub Checks : Option (List ℕ) → Option (List ℕ) → Option (List ℕ) → Ending → Type 0
Checks input old new ending.Done = IsCompared input old new ending.Done
Checks input old new ending.Differs = IsCompared input old new ending.Differs
Checks input old new (ending.Fault fault) = IfSome input (λ text. judge_journal text ≡ Err fault) × Keeps old new
Checks input old new ending.NoInput = Keeps old new
Checks input old new ending.NoMemory = Keeps old new
Checks input old new ending.NoOutput =
    Spells input (λ journal. Finds journal (λ found. AppendsFront old new (text_of_comparison found)))
Checks input old new other = ⊥
