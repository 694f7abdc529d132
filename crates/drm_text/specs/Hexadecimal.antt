-- Bytes as hexadecimal digits in lower case.
use Rattle.std.specs.Prelude.{ℕ, Bool, is_some, ◌+◌, ◌-◌, ◌*◌, ◌&&◌, nat_le, nat_lt, ◌/◌, ◌%◌, List, [], ◌∷◌, ◌++◌, flat_map, Option, Some, None, Result, Ok, if◌then◌else◌}
use Rattle.drm_text.specs.declared.fault.Fault.{Fault}
use Rattle.drm_text.specs.declared.fault.TextFault.TheVariants as what
use Rattle.drm_text.specs.Cut.{Words}
use Rattle.drm_text.specs.Reading.{◌>>=◌, ◌>>+◌, or_fault}
use Rattle.drm_text.specs.Words.{word_at, end_at, fault_here}

-- the value of a hexadecimal digit in lower case
abbrev pub hex_digit : ℕ → Option ℕ
hex_digit c =
    if nat_le 48 c && nat_le c 57 then Some (c - 48)
    else if nat_le 97 c && nat_le c 102 then Some (c - 97 + 10)
    else None

abbrev pub is_hex_digit : ℕ → Bool
is_hex_digit c = is_some (hex_digit c)

abbrev pub byte_from : Option ℕ → Option ℕ → Option ℕ
byte_from (Some high) (Some low) = Some (high * 16 + low)
byte_from (Some high) None = None
byte_from None low = None

-- the byte that two digits spell
abbrev pub byte_of : List ℕ → Option ℕ
byte_of [] = None
byte_of (high ∷ []) = None
byte_of (high ∷ low ∷ []) = byte_from (hex_digit high) (hex_digit low)
byte_of (high ∷ low ∷ more ∷ rest) = None

-- these bytes, and those that the digits spell
unfoldable pub with_bytes : List ℕ → List ℕ → Option (List ℕ)
with_bytes bytes [] = Some bytes
with_bytes bytes (high ∷ []) = None
with_bytes bytes (high ∷ low ∷ rest) = byte_from (hex_digit high) (hex_digit low) >>+ λ byte. with_bytes (bytes ++ byte ∷ []) rest

-- the bytes that a word spells
abbrev pub bytes_of : List ℕ → Option (List ℕ)
bytes_of word = with_bytes [] word

-- the bytes of the next word
unfoldable pub bytes_at : Words → Result (List ℕ × Words) Fault
bytes_at words =
    word_at words >>= λ word.
    or_fault (bytes_of word.0) (fault_here words what.Number) >>= λ bytes.
    Ok (bytes, word.1)

-- bytes, which end the line
unfoldable pub last_bytes_at : Words → Result (List ℕ) Fault
last_bytes_at words =
    bytes_at words >>= λ bytes.
    end_at bytes.1 >>= λ _.
    Ok bytes.0

-- the digit of a number below 16
abbrev pub digit_of : ℕ → ℕ
digit_of n = if nat_lt n 10 then n + 48 else n + 87

-- how a byte is written
abbrev pub text_of_byte : ℕ → List ℕ
text_of_byte byte = digit_of (byte / 16) ∷ digit_of (byte % 16) ∷ []

-- how bytes are written
abbrev pub text_of_bytes : List ℕ → List ℕ
text_of_bytes bytes = flat_map text_of_byte bytes
