-- What stands first in bytes: marks, digits, words.
use Rattle.std.specs.Prelude.{ℕ, suc, zero, Bool, ◌+◌, ◌*◌, ◌^◌, ◌==◌, ◌&&◌, ◌||◌, codes, is_some, not, nat_le, nat_lt, List, [], ◌∷◌, Option, Some, None, length, take, slice_index, if◌then◌else◌}
use Rattle.std.specs.Char.{is_ascii_digit}
use Rattle.std.specs.List.{position_or_len}
use Rattle.std.specs.Str.{bytes_eq}
use Rattle.drm_text.specs.Hexadecimal.{hex_digit, is_hex_digit}

-- the bytes begin with the mark
abbrev pub begins_with : List ℕ → List ℕ → Bool
begins_with mark bytes = nat_le (length mark) (length bytes) && bytes_eq (take (length mark) bytes) mark

-- the place at which the mark stands first in these bytes, of which the first has this place
abbrev pub place_from : List ℕ → ℕ → List ℕ → Option ℕ
place_from mark at [] = None
place_from mark at (byte ∷ bytes) = if begins_with mark (byte ∷ bytes) then Some at else place_from mark (at + 1) bytes

-- the mark stands somewhere
abbrev pub has_mark : List ℕ → List ℕ → Bool
has_mark mark bytes = is_some (place_from mark 0 bytes)

-- a line of the kernel or of trace-cmd that tells that events were lost: [LOST 12 EVENTS], [12 EVENTS DROPPED], CPU 1
-- buffer started
abbrev pub tells_loss : List ℕ → Bool
tells_loss bytes = has_mark (codes "EVENTS]") bytes || has_mark (codes "EVENTS DROPPED]") bytes || has_mark (codes " buffer started ####") bytes

-- where the word begins that ends before a place: behind the last space there
abbrev pub word_start : List ℕ → ℕ → ℕ
word_start bytes zero = 0
word_start bytes (suc at) = if slice_index bytes at == 32 then suc at else word_start bytes at

-- how many spaces stand first
abbrev pub spaces_in : List ℕ → ℕ
spaces_in bytes = position_or_len (λ b. not (b == 32)) bytes

-- how many digits stand first
abbrev pub digits_in : List ℕ → ℕ
digits_in bytes = position_or_len (λ b. not (is_ascii_digit b)) bytes

-- the same of hexadecimal digits in lower case
abbrev pub hex_digits_in : List ℕ → ℕ
hex_digits_in bytes = position_or_len (λ b. not (is_hex_digit b)) bytes

-- the number with one more digit, while it has 64 bits at most
abbrev pub with_digit_of : ℕ → Option ℕ → Option ℕ
with_digit_of value None = None
with_digit_of value (Some digit) = if nat_lt (value * 16 + digit) (2 ^ 64) then Some (value * 16 + digit) else None

abbrev pub with_hex_digit : ℕ → ℕ → Option ℕ
with_hex_digit value byte = with_digit_of value (hex_digit byte)

-- the same for all digits of a word, behind those of a number
abbrev pub with_hex_digits : Option ℕ → List ℕ → Option ℕ
with_hex_digits None word = None
with_hex_digits (Some value) [] = Some value
with_hex_digits (Some value) (byte ∷ word) = with_hex_digits (with_hex_digit value byte) word

-- the number that hexadecimal digits spell, of which there is one at least
abbrev pub hex_value : List ℕ → Option ℕ
hex_value [] = None
hex_value (byte ∷ word) = with_hex_digits (Some 0) (byte ∷ word)
