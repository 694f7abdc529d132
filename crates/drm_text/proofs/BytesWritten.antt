-- Bytes and their digits.
use Rattle.std.proofs.Common.{◌≡◌, ℕ, ◌+◌, ◌*◌, ◌/◌, ◌%◌, ◌<◌, List, [], ◌∷◌, ◌++◌, append_assoc, Some, None, Option, refl, sym, ap, ◌∙◌, arith}
use Rattle.std.specs.List.{AllByRecursion}
use Rattle.std.proofs.lemmas.Bool.Decides.{nat_tests}
use Rattle.std.proofs.lemmas.List.{append-nil}
use Rattle.drm_text.specs.Hexadecimal.{hex_digit, byte_from, with_bytes, digit_of, text_of_byte, text_of_bytes, bytes_of, byte_of}
use Rattle.drm_text.specs.Reading.{◌>>+◌}

abbrev IsDigit : ℕ → ℕ → Type 0
IsDigit c d = (c ≡ digit_of d) × (d < 16)

-- a digit that is read is what is written for it
digit_takes : (c d : ℕ) → hex_digit c ≡ Some d → IsDigit c d
digit_takes c d e = grind (arith, nat_tests)

-- what is written for a digit is read as it
digit_again : (d : ℕ) → d < 16 → hex_digit (digit_of d) ≡ Some d
digit_again d small = grind (arith, nat_tests)

two_digits : (high low : ℕ) → low < 16 → ((high * 16 + low) / 16 ≡ high) × ((high * 16 + low) % 16 ≡ low)
two_digits high low small = (omega arith, omega arith)

byte_of_digits : (a b : ℕ) (high low : Option ℕ) (byte : ℕ) → hex_digit a ≡ high → hex_digit b ≡ low → byte_from high low ≡ Some byte
    → (a ∷ b ∷ []) ≡ text_of_byte byte
byte_of_digits a b (Some h) (Some l) byte is_h is_l e =
    let same : h * 16 + l ≡ byte = cc in
    let high = digit_takes a h is_h in
    let low = digit_takes b l is_l in
    let parts = two_digits h l low.1 in
    rw (← same, parts.0, parts.1, high.0, low.0) refl
byte_of_digits a b (Some h) None byte is_h is_l e = absurd (cc)
byte_of_digits a b None low byte is_h is_l e = absurd (cc)

abbrev Spells : List ℕ → List ℕ → List ℕ → Type 0
Spells before word all = (tail : List ℕ) × (all ≡ before ++ tail) × (word ≡ text_of_bytes tail)

spells_more : (before word all : List ℕ) (a b : ℕ) (byte : Option ℕ) → byte_from (hex_digit a) (hex_digit b) ≡ byte
    → ((byte : ℕ) → with_bytes (before ++ byte ∷ []) word ≡ Some all → Spells (before ++ byte ∷ []) word all)
    → (byte >>+ λ x. with_bytes (before ++ x ∷ []) word) ≡ Some all → Spells before (a ∷ b ∷ word) all
spells_more before word all a b None is again e = absurd (cc)
spells_more before word all a b (Some byte) is again e =
    let more = again byte e in
    let digits : (a ∷ b ∷ []) ≡ text_of_byte byte = byte_of_digits a b (hex_digit a) (hex_digit b) byte refl refl is in
    (byte ∷ more.0, more.1 ∙ append_assoc before (byte ∷ []) more.0, ap (λ (w : List ℕ). a ∷ b ∷ w) more.2 ∙ ap (λ (w : List ℕ). w ++ text_of_bytes more.0) digits)

spelled : (before word all : List ℕ) → with_bytes before word ≡ Some all → Spells before word all
unfolding with_bytes
spelled before [] all e = let same : before ≡ all = cc in ([], sym same ∙ sym (append-nil before), refl)
spelled before (a ∷ []) all e = absurd (cc)
spelled before (a ∷ b ∷ word) all e = spells_more before word all a b (byte_from (hex_digit a) (hex_digit b)) refl (λ byte. spelled (before ++ byte ∷ []) word all) e

pub bytes_takes : (bytes word : List ℕ) → bytes_of word ≡ Some bytes → word ≡ text_of_bytes bytes
bytes_takes bytes word e = let s = spelled [] word bytes e in rw s.1 s.2

pub byte_written : (byte : ℕ) → byte < 256 → byte_from (hex_digit (digit_of (byte / 16))) (hex_digit (digit_of (byte % 16))) ≡ Some byte
byte_written byte small =
    let whole : byte / 16 * 16 + byte % 16 ≡ byte = omega arith in
    rw (digit_again (byte / 16) (omega arith), digit_again (byte % 16) (omega arith)) (ap (λ (n : ℕ). Some n) whole)

written_behind : (before bytes : List ℕ) → AllByRecursion (λ byte. byte < 256) bytes → with_bytes before (text_of_bytes bytes) ≡ Some (before ++ bytes)
unfolding with_bytes
written_behind before [] small = rw (append-nil before) refl
written_behind before (byte ∷ bytes) small =
    rw (byte_written byte small.0) (written_behind (before ++ byte ∷ []) bytes small.1 ∙ ap (λ (all : List ℕ). Some all) (append_assoc before (byte ∷ []) bytes))

pub bytes_written : (bytes : List ℕ) → AllByRecursion (λ byte. byte < 256) bytes → bytes_of (text_of_bytes bytes) ≡ Some bytes
bytes_written bytes small = written_behind [] bytes small

small_behind : (before : List ℕ) (byte : ℕ) → AllByRecursion (λ b. b < 256) before → byte < 256 → AllByRecursion (λ b. b < 256) (before ++ byte ∷ [])
small_behind [] byte all small = (small, tt)
small_behind (first ∷ before) byte all small = (all.0, small_behind before byte all.1 small)

byte_small : (a b : ℕ) (high low : Option ℕ) (byte : ℕ) → hex_digit a ≡ high → hex_digit b ≡ low → byte_from high low ≡ Some byte → byte < 256
byte_small a b (Some h) (Some l) byte is_h is_l e =
    let same : h * 16 + l ≡ byte = cc in
    let high = digit_takes a h is_h in
    let low = digit_takes b l is_l in
    omega (arith, high.1, low.1)
byte_small a b (Some h) None byte is_h is_l e = absurd (cc)
byte_small a b None low byte is_h is_l e = absurd (cc)

small_more : (before word all : List ℕ) (a b : ℕ) (byte : Option ℕ) → byte_from (hex_digit a) (hex_digit b) ≡ byte → AllByRecursion (λ x. x < 256) before
    → ((byte : ℕ) → AllByRecursion (λ x. x < 256) (before ++ byte ∷ []) → with_bytes (before ++ byte ∷ []) word ≡ Some all → AllByRecursion (λ x. x < 256) all)
    → (byte >>+ λ x. with_bytes (before ++ x ∷ []) word) ≡ Some all → AllByRecursion (λ x. x < 256) all
small_more before word all a b None is small again e = absurd (cc)
small_more before word all a b (Some byte) is small again e =
    again byte (small_behind before byte small (byte_small a b (hex_digit a) (hex_digit b) byte refl refl is)) e

small_read : (before word all : List ℕ) → AllByRecursion (λ b. b < 256) before → with_bytes before word ≡ Some all → AllByRecursion (λ b. b < 256) all
unfolding with_bytes
small_read before [] all small e = let same : before ≡ all = cc in rw same at small
small_read before (a ∷ []) all small e = absurd (cc)
small_read before (a ∷ b ∷ word) all small e =
    small_more before word all a b (byte_from (hex_digit a) (hex_digit b)) refl small (λ byte more. small_read (before ++ byte ∷ []) word all more) e

-- bytes that were read are bytes
pub bytes_small : (bytes word : List ℕ) → bytes_of word ≡ Some bytes → AllByRecursion (λ b. b < 256) bytes
bytes_small bytes word e = small_read [] word bytes tt e

-- a word that is read as a byte is the byte's digits
pub byte_takes : (byte : ℕ) (word : List ℕ) → byte_of word ≡ Some byte → (word ≡ text_of_byte byte) × (byte < 256)
byte_takes byte [] e = absurd (cc)
byte_takes byte (a ∷ []) e = absurd (cc)
byte_takes byte (a ∷ b ∷ []) e =
    (byte_of_digits a b (hex_digit a) (hex_digit b) byte refl refl e, byte_small a b (hex_digit a) (hex_digit b) byte refl refl e)
byte_takes byte (a ∷ b ∷ c ∷ rest) e = absurd (cc)
