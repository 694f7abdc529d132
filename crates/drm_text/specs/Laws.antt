-- What is read is what is written: the two ways of numbers and of bytes.
use Rattle.std.specs.Prelude.{◌≡◌, ◌≢◌, ◌≤◌, ◌<◌, ◌^◌, ℕ, List, ◌∷◌, Some}
use Rattle.std.specs.List.{AllByRecursion, join_with_byte}
use Rattle.std.specs.Fmt.{decimal}
use Rattle.drm_text.specs.declared.keywords.Keyword.{Keyword}
use Rattle.drm_text.specs.Cut.{parts_of}
use Rattle.drm_text.specs.Keywords.{keyword_of, keyword_text}
use Rattle.drm_text.specs.Number.{number_up_to}
use Rattle.drm_text.specs.Hexadecimal.{bytes_of, text_of_bytes}

-- a word that is read as a number is what is written for it, so each number is spelled in one way
abbrev pub NumbersAreReadAsWritten : Type 0
NumbersAreReadAsWritten =
    (most n : ℕ) (word : List ℕ) → n < 2 ^ 64 → number_up_to most word ≡ Some n → word ≡ decimal n

-- what is written for a number is read as it, up to the greatest that is read
abbrev pub WrittenNumbersAreRead : Type 0
WrittenNumbersAreRead = (most n : ℕ) → n < 2 ^ 64 → n ≤ most → number_up_to most (decimal n) ≡ Some n

-- a word that is read as bytes is what is written for them
abbrev pub BytesAreReadAsWritten : Type 0
BytesAreReadAsWritten = (bytes word : List ℕ) → bytes_of word ≡ Some bytes → word ≡ text_of_bytes bytes

-- what is written for bytes is read as them
abbrev pub WrittenBytesAreRead : Type 0
WrittenBytesAreRead = (bytes : List ℕ) → AllByRecursion (λ byte. byte < 256) bytes → bytes_of (text_of_bytes bytes) ≡ Some bytes

-- a word that begins a line is one of the words that begin lines
abbrev pub KeywordsAreReadAsWritten : Type 0
KeywordsAreReadAsWritten = (keyword : Keyword) (word : List ℕ) → keyword_of word ≡ Some keyword → word ≡ keyword_text keyword

-- and each of these is read
abbrev pub WrittenKeywordsAreRead : Type 0
WrittenKeywordsAreRead = (keyword : Keyword) → keyword_of (keyword_text keyword) ≡ Some keyword

-- no byte of the part is this one
abbrev pub IsFree : ℕ → List ℕ → Type 0
IsFree separator part = AllByRecursion (λ byte. byte ≢ separator) part

-- a text that is cut is its parts, joined by the separator
abbrev pub PartsMakeTheText : Type 0
PartsMakeTheText = (separator : ℕ) (text : List ℕ) → join_with_byte separator (parts_of separator text) ≡ text

-- none of the parts has the separator
abbrev pub PartsAreFree : Type 0
PartsAreFree = (separator : ℕ) (text : List ℕ) → AllByRecursion (IsFree separator) (parts_of separator text)

-- parts without the separator, joined by it, are cut into these parts
abbrev pub JoinedPartsAreCut : Type 0
JoinedPartsAreCut =
    (separator : ℕ) (first : List ℕ) (rest : List (List ℕ)) → AllByRecursion (IsFree separator) (first ∷ rest)
    → parts_of separator (join_with_byte separator (first ∷ rest)) ≡ first ∷ rest
