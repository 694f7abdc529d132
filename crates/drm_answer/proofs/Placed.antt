-- Text that is put into room.
use Rattle.std.proofs.Common.{◌≡◌, ℕ, ◌+◌, ◌<◌, List, ◌++◌, length, take, slice_index, slice_set, refl, arith}
use Rattle.std.specs.Prelude.{ℤ, pos, negsuc, ◌≤ℤ◌, unsigned_abs}
use Rattle.std.specs.Fmt.{decimal, signed_decimal}
use Rattle.std.proofs.lemmas.Int.{ints}
use Rattle.std.proofs.lemmas.List.{append_assoc, take_more, take_more_set}

-- a status that is not negative is written as its number
pub not_negative : (z : ℤ) → pos 0 ≤ℤ z → signed_decimal z ≡ decimal (unsigned_abs z)
not_negative (pos n) least = refl
not_negative (negsuc n) least = absurd (omega (arith, ints, least))

-- one byte more of a word is put behind what stands
pub byte_placed : (old room word : List ℕ) (at place : ℕ) → at + place < length room → place < length word
    → take (at + place) room ≡ take at old ++ take place word
    → take (at + (place + 1)) (slice_set room (at + place) (slice_index word place)) ≡ take at old ++ take (place + 1) word
byte_placed old room word at place fits left inv =
    let more : at + (place + 1) ≡ at + place + 1 = omega arith in
    rw (more, take_more_set room (at + place) (slice_index word place) fits, inv, take_more word place 0 left) (append_assoc (take at old) (take place word) _)
