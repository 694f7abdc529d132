-- Lines that are read, and lines that are written.
use Rattle.std.proofs.Common.{◌≡◌, ◌≢◌, ℕ, ◌+◌, ◌≤◌, ◌<◌, ◌==◌, true, false, List, [], ◌∷◌, ◌++◌, length, map, append_assoc, Ok, Err, refl, sym, ap, subst, ◌∙◌, arith, eq-eqb, le-leb}
use Rattle.std.specs.List.{All, AllByRecursion, join_with_byte, list_all}
use Rattle.std.proofs.lemmas.Bool.{and_parts, leb-true, ne_eqb}
use Rattle.std.proofs.lemmas.List.Elements.{All-weaker, All-from_recursion}
use Rattle.std.proofs.lemmas.List.Splits.{slice_split_at, join_with_byte-slice_split}
use Rattle.drm_text.specs.declared.fault.Fault.TheVariants.{Text}
use Rattle.drm_text.specs.declared.fault.TextFault.TheVariants as what
use Rattle.drm_text.specs.declared.keywords.Command.TheVariants as command
use Rattle.drm_text.specs.declared.keywords.Keyword.{Keyword}
use Rattle.drm_text.specs.declared.keywords.Keyword.TheVariants as line
use Rattle.drm_text.specs.Cut.{Words, cut_from, parts_of}
use Rattle.drm_text.specs.Grammar.{text_of_lines}
use Rattle.drm_text.specs.Keywords.{keyword_of, keyword_text}
use Rattle.drm_text.specs.Laws.{IsFree}
use Rattle.drm_text.specs.Lines.{is_printable, text_fault, start_at, last_line}
use Rattle.drm_text.specs.Reading.{◌>>=◌, or_fault}
use Rattle.drm_text.specs.Words.{word_at}
use Rattle.drm_text.proofs.KeywordsWritten.{keyword_takes, keyword_written}
use Rattle.drm_text.proofs.PartsJoined.{joined_cut}
use Rattle.drm_text.proofs.Printed.{no_fault}
use Rattle.drm_text.proofs.Spelled.{is_graphic, passes-joined, free_from, all_free}
use Rattle.drm_text.proofs.WordReaders.{bind_ok, ok_is, or_fault_ok, any_word}

-- words that have only bytes that words may have
abbrev pub AreWords : List (List ℕ) → Type 0
AreWords words = AllByRecursion (λ word. list_all is_graphic word ≡ true) words

printable : (byte : ℕ) → is_graphic byte ≡ true → is_printable byte ≡ true
printable byte is =
    let parts = and_parts _ _ is in
    let low : 33 ≤ byte = leb-true _ _ parts.0 in
    let high : byte ≤ 126 = leb-true _ _ parts.1 in
    rw (le-leb 32 byte (omega arith), le-leb byte 126 high) refl

passes-printable : (word : List ℕ) → list_all is_graphic word ≡ true → list_all is_printable word ≡ true
passes-printable [] is = refl
passes-printable (byte ∷ word) is =
    let parts = and_parts _ _ is in rw (printable byte parts.0, passes-printable word parts.1) refl

all_printable : (words : List (List ℕ)) → AreWords words → AllByRecursion (λ word. list_all is_printable word ≡ true) words
all_printable [] are = tt
all_printable (word ∷ words) are = (passes-printable word are.0, all_printable words are.1)

joined_printable : (words : List (List ℕ)) → AreWords words → list_all is_printable (join_with_byte 32 words) ≡ true
joined_printable words are = passes-joined is_printable 32 refl words (all_printable words are)

abbrev all_words : ℕ → List ℕ → Words
all_words line bytes = record { line = line; rest = cut_from 32 bytes 0 }

all_parts : (line : ℕ) (bytes : List ℕ) → (all_words line bytes).rest.parts ≡ parts_of 32 bytes
all_parts line bytes = rw (le-leb 0 (length bytes) (omega arith)) refl

-- a line that is begun is its first word and the other words
pub start_takes : (n : ℕ) (bytes : List ℕ) (x : Keyword × Words) → start_at n bytes ≡ Ok x → bytes ≡ join_with_byte 32 (keyword_text x.0 ∷ x.1.rest.parts)
unfolding start_at
start_takes n bytes x e =
    let words = all_words n bytes in
    let a = bind_ok (text_fault n 1 bytes) (λ _. word_at words >>= λ first. or_fault (keyword_of first.0) (Text n 1 what.Word) >>= λ keyword. Ok (keyword, first.1)) x e in
    let b = bind_ok (word_at words) (λ first. or_fault (keyword_of first.0) (Text n 1 what.Word) >>= λ keyword. Ok (keyword, first.1)) x a.2 in
    let c = bind_ok (or_fault (keyword_of b.0.0) (Text n 1 what.Word)) (λ keyword. Ok (keyword, b.0.1)) x b.2 in
    let word : b.0.0 ≡ keyword_text c.0 = keyword_takes c.0 b.0.0 (or_fault_ok (keyword_of b.0.0) (Text n 1 what.Word) c.0 c.1) in
    let parts : parts_of 32 bytes ≡ keyword_text c.0 ∷ b.0.1.rest.parts = sym (all_parts n bytes) ∙ (any_word.takes words b.0 b.1).0 ∙ ap (λ (w : List ℕ). w ∷ b.0.1.rest.parts) word in
    subst (λ (y : Keyword × Words). bytes ≡ join_with_byte 32 (keyword_text y.0 ∷ y.1.rest.parts)) (ok_is (c.0, b.0.1) x c.2)
    (sym (join_with_byte-slice_split 32 bytes) ∙ ap (join_with_byte 32) parts)

keyword_graphic : (keyword : Keyword) → (0 < length (keyword_text keyword)) × (list_all is_graphic (keyword_text keyword) ≡ true)
keyword_graphic line.Buffer = (omega arith, refl)
keyword_graphic line.Zero = (omega arith, refl)
keyword_graphic line.Ring = (omega arith, refl)
keyword_graphic line.Entity = (omega arith, refl)
keyword_graphic line.Jobs = (omega arith, refl)
keyword_graphic line.Go = (omega arith, refl)
keyword_graphic line.Job = (omega arith, refl)
keyword_graphic line.Final = (omega arith, refl)
keyword_graphic (line.Command command.Submit) = (omega arith, refl)
keyword_graphic (line.Command command.Begin) = (omega arith, refl)
keyword_graphic (line.Command command.Try) = (omega arith, refl)
keyword_graphic (line.Command command.Done) = (omega arith, refl)
keyword_graphic (line.Command command.Drop) = (omega arith, refl)
keyword_graphic (line.Command command.End) = (omega arith, refl)
keyword_graphic (line.Command command.Plan) = (omega arith, refl)
keyword_graphic (line.Command command.Arm) = (omega arith, refl)
keyword_graphic (line.Command command.Pick) = (omega arith, refl)
keyword_graphic (line.Command command.Step) = (omega arith, refl)
keyword_graphic (line.Command command.Finish) = (omega arith, refl)
keyword_graphic (line.Command command.Timeout) = (omega arith, refl)
keyword_graphic (line.Command command.Cancel) = (omega arith, refl)
keyword_graphic (line.Command command.Reap) = (omega arith, refl)
keyword_graphic (line.Command command.Read) = (omega arith, refl)
keyword_graphic (line.Command command.Fence) = (omega arith, refl)
keyword_graphic (line.Command command.Dump) = (omega arith, refl)

pub keyword_is_word : (keyword : Keyword) → list_all is_graphic (keyword_text keyword) ≡ true
keyword_is_word keyword = (keyword_graphic keyword).1

-- a line that is written is begun
pub start_again : (n : ℕ) (keyword : Keyword) (rest : List (List ℕ)) → AreWords rest
    → (after : Words) × (start_at n (join_with_byte 32 (keyword_text keyword ∷ rest)) ≡ Ok (keyword, after)) × (after.rest.parts ≡ rest)
unfolding start_at
start_again n keyword rest are =
    let first = keyword_graphic keyword in
    let all : AreWords (keyword_text keyword ∷ rest) = (first.1, are) in
    let bytes = join_with_byte 32 (keyword_text keyword ∷ rest) in
    let parts : parts_of 32 bytes ≡ keyword_text keyword ∷ rest = joined_cut 32 (keyword_text keyword) rest (all_free is_graphic 32 refl (keyword_text keyword ∷ rest) all) in
    let text : text_fault n 1 bytes ≡ Ok tt = no_fault n 1 bytes (joined_printable (keyword_text keyword ∷ rest) all) in
    let word = any_word.again (all_words n bytes) (keyword_text keyword) rest (all_parts n bytes ∙ parts) first.0 in
    (word.0, rw (text, word.1, keyword_written keyword) refl, word.2)

-- what stands behind the last line end
pub last_takes : (n : ℕ) (bytes : List ℕ) (x : Unit {0}) → last_line n bytes ≡ Ok x → bytes ≡ []
last_takes n [] x e = refl
last_takes n (byte ∷ bytes) x e =
    let a = bind_ok (text_fault n 1 (byte ∷ bytes)) (λ _. Err (Text n (length (byte ∷ bytes) + 1) what.NoEnd)) x e in absurd (let never = a.2 in cc)

-- lines of words as bytes, and nothing behind them
abbrev pub cut_lines : List (List (List ℕ)) → List (List ℕ)
cut_lines lines = map (join_with_byte 32) lines ++ [] ∷ []

abbrev pub AreLines : List (List (List ℕ)) → Type 0
AreLines lines = AllByRecursion AreWords lines

-- lines that are written are cut again
pub lines_cut : (lines : List (List (List ℕ))) → AreLines lines → parts_of 10 (text_of_lines lines) ≡ cut_lines lines
lines_cut [] are = refl
lines_cut (words ∷ lines) are =
    let bytes = join_with_byte 32 words in
    let free : IsFree 10 bytes = free_from is_printable 10 refl bytes (joined_printable words are.0) in
    let fails : All (λ b. (b == 10) ≡ false) bytes =
    All-weaker (λ b. b ≢ 10) (λ b. (b == 10) ≡ false) (λ b other. ne_eqb b 10 other) bytes (All-from_recursion (λ b. b ≢ 10) bytes free) in
    ap (parts_of 10) (append_assoc bytes (10 ∷ []) (text_of_lines lines))
    ∙ slice_split_at (λ b. b == 10) bytes 10 (text_of_lines lines) fails (eq-eqb 10 10 refl)
    ∙ ap (λ (parts : List (List ℕ)). bytes ∷ parts) (lines_cut lines are.1)

joined_more : (bytes : List ℕ) (parts : List (List ℕ)) → 0 < length parts → join_with_byte 10 (bytes ∷ parts) ≡ bytes ++ 10 ∷ join_with_byte 10 parts
joined_more bytes [] some = absurd (omega arith)
joined_more bytes (part ∷ parts) some = refl

some_parts : (lines : List (List (List ℕ))) → 0 < length (cut_lines lines)
some_parts [] = omega arith
some_parts (words ∷ lines) = omega arith

lines_joined : (lines : List (List (List ℕ))) → join_with_byte 10 (cut_lines lines) ≡ text_of_lines lines
lines_joined [] = refl
lines_joined (words ∷ lines) =
    let bytes = join_with_byte 32 words in
    joined_more bytes (cut_lines lines) (some_parts lines)
    ∙ ap (λ (rest : List ℕ). bytes ++ 10 ∷ rest) (lines_joined lines)
    ∙ sym (append_assoc bytes (10 ∷ []) (text_of_lines lines))

-- a text that is cut into these lines is these lines
pub lines_make_text : (text : List ℕ) (lines : List (List (List ℕ))) → parts_of 10 text ≡ cut_lines lines → text ≡ text_of_lines lines
lines_make_text text lines is = sym (join_with_byte-slice_split 10 text) ∙ ap (join_with_byte 10) is ∙ lines_joined lines
