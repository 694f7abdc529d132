-- Text that is placed in room.
use Rattle.std.proofs.Common.{◌≡◌, ℕ, ◌+◌, ◌<◌, List, ◌++◌, length, take, slice_index, slice_set, arith}
use Rattle.std.proofs.lemmas.List.{append_assoc, take_more, take_more_set}

-- one byte more of some is placed behind what stands
pub byte_placed : (old room bytes : List ℕ) (at place : ℕ) → at + place < length room → place < length bytes
    → take (at + place) room ≡ take at old ++ take place bytes
    → take (at + (place + 1)) (slice_set room (at + place) (slice_index bytes place)) ≡ take at old ++ take (place + 1) bytes
byte_placed old room bytes at place fits left so =
    let more : at + (place + 1) ≡ at + place + 1 = omega arith in
    rw (more, take_more_set room (at + place) (slice_index bytes place) fits, so, take_more bytes place 0 left) (append_assoc (take at old) (take place bytes) _)
