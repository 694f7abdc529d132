-- A number that is read as it is cut.
use Rattle.std.proofs.Common.{◌≡◌, ◌≢◌, ℕ, suc, ◌+◌, ◌<◌, ◌==◌, false, List, [], ◌∷◌, length, take, drop, Option, Some, None, refl, arith}
use Rattle.std.specs.List.{position_or_len, slice_index}
use Rattle.std.proofs.lemmas.Bool.{ne_eqb}
use Rattle.std.proofs.lemmas.List.{drop_more}
use Rattle.drm_text.specs.Number.{with_digit, with_digits, number_up_to}

-- the bytes before the separator
abbrev pub first_of : ℕ → List ℕ → List ℕ
first_of separator bytes = take (position_or_len (λ b. b == separator) bytes) bytes

first_byte : (separator most value byte : ℕ) (rest more : List ℕ) → rest ≡ byte ∷ more → (byte == separator) ≡ false
    → (position_or_len (λ b. b == separator) rest ≡ 1 + position_or_len (λ b. b == separator) more)
    × (with_digits most (Some value) (first_of separator rest) ≡ with_digits most (with_digit most value byte) (first_of separator more))
first_byte separator most value byte rest more is other =
    let first : 1 + position_or_len (λ b. b == separator) more ≡ suc (position_or_len (λ b. b == separator) more) = omega arith in
    (rw (is, other) (omega arith), rw (is, other, first) refl)

-- one byte more of the first part
pub one_more_byte : (separator most value end : ℕ) (bytes : List ℕ) → end < length bytes → slice_index bytes end ≢ separator
    → (end + position_or_len (λ b. b == separator) (drop end bytes) ≡ end + 1 + position_or_len (λ b. b == separator) (drop (end + 1) bytes))
    × (with_digits most (Some value) (first_of separator (drop end bytes)) ≡ with_digits most (with_digit most value (slice_index bytes end)) (first_of separator (drop (end + 1) bytes)))
one_more_byte separator most value end bytes lt other =
    let cut : drop end bytes ≡ slice_index bytes end ∷ drop (end + 1) bytes = drop_more bytes end 0 lt in
    let more = first_byte separator most value (slice_index bytes end) (drop end bytes) (drop (end + 1) bytes) cut (ne_eqb (slice_index bytes end) separator other) in
    (omega (arith, more.0), more.1)

no_more_digits : (most : ℕ) (o : Option ℕ) → o ≡ with_digits most o []
no_more_digits most None = refl
no_more_digits most (Some value) = refl

-- a number of one byte
pub one_digit : (most : ℕ) (part : List ℕ) → length part ≡ 1 → with_digit most 0 (slice_index part 0) ≡ number_up_to most part
one_digit most [] one = absurd (omega (arith, one))
one_digit most (byte ∷ []) one = no_more_digits most (with_digit most 0 byte)
one_digit most (first ∷ second ∷ rest) one = absurd (omega (arith, one))
