-- Steps of the loop that writes two digits for each byte.
use Rattle.std.proofs.Common.{◌≡◌, ℕ, ◌+◌, ◌*◌, ◌/◌, ◌%◌, ◌<◌, ◌≤◌, List, [], ◌∷◌, ◌++◌, length, take, drop, slice_index, slice_set, refl, sym, ap, ◌∙◌, take-append-drop, arith}
use Rattle.std.proofs.lemmas.List.{append_assoc, append-nil, drop_all, drop_more, take_all, take_more_set, length-set}
use Rattle.std.proofs.lemmas.Grind.{flat_map-append}
use Rattle.drm_text.specs.Hexadecimal.{digit_of, text_of_byte, text_of_bytes}

-- two writes in a row, seen from the front
two_writes : (xs : List ℕ) (o x y : ℕ) → o + 1 < length xs
    → take (o + 2) (slice_set (slice_set xs o x) (o + 1) y) ≡ take o xs ++ (x ∷ y ∷ [])
two_writes xs o x y fits =
    let len : length (slice_set xs o x) ≡ length xs = length-set xs o x in
    let two : o + 2 ≡ o + 1 + 1 = omega arith in
    let second = take_more_set (slice_set xs o x) (o + 1) y (omega (arith, len)) in
    let first = take_more_set xs o x (omega arith) in
    rw (two, second, first) (append_assoc (take o xs) (x ∷ []) (y ∷ []))

-- the digits of what is left, from one byte on
digits_from : (bytes : List ℕ) (i : ℕ) → i < length bytes
    → text_of_bytes (drop i bytes) ≡ digit_of (slice_index bytes i / 16) ∷ digit_of (slice_index bytes i % 16) ∷ text_of_bytes (drop (i + 1) bytes)
digits_from bytes i h = rw (drop_more bytes i 0 h) refl

-- one byte more is written
pub byte_filled : (bytes room : List ℕ) (i x y : ℕ) → i < length bytes → 2 * i + 1 < length room
    → x ≡ digit_of (slice_index bytes i / 16) → y ≡ digit_of (slice_index bytes i % 16)
    → take (2 * i) room ++ text_of_bytes (drop i bytes) ≡ text_of_bytes bytes
    → take (2 * (i + 1)) (slice_set (slice_set room (2 * i) x) (2 * i + 1) y) ++ text_of_bytes (drop (i + 1) bytes) ≡ text_of_bytes bytes
byte_filled bytes room i x y h fits ex ey inv =
    let two : 2 * (i + 1) ≡ 2 * i + 2 = omega arith in
    let front = two_writes room (2 * i) x y fits in
    let rest = digits_from bytes i h in
    rw (two, front, append_assoc, ex, ey) (rw rest at inv)

-- every byte is written
pub all_filled : (bytes room : List ℕ) (i : ℕ) → length bytes ≤ i → length room ≡ 2 * length bytes
    → take (2 * i) room ++ text_of_bytes (drop i bytes) ≡ text_of_bytes bytes
    → room ≡ text_of_bytes bytes
all_filled bytes room i h len inv =
    let d = drop_all i bytes h in
    let a = take_all (2 * i) room (omega arith) in
    rw (d, a, append-nil) at inv

-- bytes are written in two parts as at once
pub cut_text : (n : ℕ) (bytes : List ℕ) → text_of_bytes (take n bytes) ++ text_of_bytes (drop n bytes) ≡ text_of_bytes bytes
cut_text n bytes = sym (flat_map-append text_of_byte (take n bytes) (drop n bytes)) ∙ ap text_of_bytes (take-append-drop n bytes)
