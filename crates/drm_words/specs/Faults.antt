-- A fault of a text in words: the line, a mark under its place, what is wrong and what was expected.
use Rattle.std.specs.Prelude.{ℕ, ◌+◌, ◌-◌, List, [], ◌++◌, codes, get_or, length, map, nat_lt, replicate, if◌then◌else◌}
use Rattle.std.specs.String.{string_bytes}
use Rattle.drm_text.specs.Cut.{parts_of}
use Rattle.drm_text.specs.Faults.{number_of_fault}
use Rattle.drm_text.specs.Lines.{is_printable}
use Rattle.drm_text.specs.declared.fault.Fault.{Fault}
use Rattle.drm_text.specs.declared.fault.Fault.TheVariants.{Text, Device}
use Rattle.drm_engine.specs.Endings.{text_of_ending}
use Rattle.drm_engine.specs.declared.ending.Ending.TheVariants as ending
use Rattle.drm_explain.specs.Rows.{sentence_at}
use Rattle.drm_words.specs.declared.fault.FaultInWords.{FaultInWords}

-- how a byte is shown: a question mark stands for one that is no printable ASCII character
abbrev pub shown : ℕ → ℕ
shown byte = if is_printable byte then byte else 63

-- the line of this number, counted from 1
abbrev pub line_at : List ℕ → ℕ → List ℕ
line_at text line = get_or (parts_of 10 text) (line - 1) []

-- the line, and a mark below its byte of this column, which is counted from 1
unfoldable pub marked : List ℕ → ℕ → List ℕ
marked line column = ((codes "  " ++ map shown line) ++ codes "\n ") ++ (replicate column 32 ++ codes "^ ")

-- no line of a text that is too long is shown
abbrev pub place_of : List ℕ → ℕ → ℕ → List ℕ
place_of text line column = if nat_lt 1048576 (length text) then [] else marked (line_at text line) column

-- what is wrong and what was expected: two sentences of the row with this number
unfoldable pub explained : ℕ → ℕ → ℕ → List ℕ
explained number wrong expected = sentence_at number wrong ++ (codes "\nexpected: " ++ sentence_at number expected)

-- what is said of a fault. Of a device it is told by the part of the description that is out of its limits
unfoldable pub words_of_fault : List ℕ → Fault → List ℕ
words_of_fault text (Text line column what) = place_of text line column ++ explained (number_of_fault what) 0 1
words_of_fault text (Device bad) = explained 1 bad.part (bad.part + 9)

-- what is printed: the fault as it is told without words, and these
abbrev pub text_of_told : FaultInWords → List ℕ
text_of_told told = text_of_ending (ending.Fault told.fault) ++ codes "\n" ++ string_bytes told.words
