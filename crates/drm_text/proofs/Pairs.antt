-- The first byte of a hexadecimal text.
use Rattle.std.proofs.Common.{◌≡◌, ℕ, ◌+◌, ◌*◌, ◌%◌, ◌==◌, ◌&&◌, Bool, true, false, List, [], ◌∷◌, ◌++◌, take, drop, length, is_some, Option, Some, None, refl, sym, ◌<◌, arith}
use Rattle.std.specs.List.{list_all}
use Rattle.drm_text.specs.Reading.{◌>>+◌}
use Rattle.drm_text.specs.Hexadecimal.{hex_digit, is_hex_digit, byte_from, byte_of, bytes_of, with_bytes}

and_false : (b : Bool) → (b && false) ≡ false
and_false true = refl
and_false false = refl

pub pair_first : (bytes rest : List ℕ) → 0 < length rest
    → with_bytes bytes rest ≡ (byte_of (take 2 rest) >>+ λ byte. with_bytes (bytes ++ byte ∷ []) (drop 2 rest))
unfolding with_bytes
pair_first bytes [] some = absurd (omega arith)
pair_first bytes (high ∷ []) some = refl
pair_first bytes (high ∷ low ∷ rest) some = refl

pub none_left : (bytes rest : List ℕ) → length rest ≡ 0 → with_bytes bytes rest ≡ Some bytes
unfolding with_bytes
none_left bytes [] e = refl
none_left bytes (high ∷ rest) e = absurd (omega arith)

-- two digits spell a byte, and nothing else does
pair_spelled : {X : Type 0} (high low : Option ℕ) (even rest : Bool) (f : ℕ → Option X) → ((byte : ℕ) → is_some (f byte) ≡ (even && rest))
    → is_some (byte_from high low >>+ f) ≡ (even && (is_some high && (is_some low && rest)))
pair_spelled None low even rest f more = sym (and_false even)
pair_spelled (Some high) None even rest f more = sym (and_false even)
pair_spelled (Some high) (Some low) even rest f more = more (high * 16 + low)

-- a word of digits spells bytes where it has as many first digits as second ones
pub spelled_with : (bytes word : List ℕ) → is_some (with_bytes bytes word) ≡ ((length word % 2 == 0) && list_all is_hex_digit word)
unfolding with_bytes
spelled_with bytes [] = refl
spelled_with bytes (digit ∷ []) = refl
spelled_with bytes (high ∷ low ∷ rest) =
    let even : length (high ∷ low ∷ rest) % 2 ≡ length rest % 2 = omega arith in
    rw even (pair_spelled (hex_digit high) (hex_digit low) (length rest % 2 == 0) (list_all is_hex_digit rest) (λ byte. with_bytes (bytes ++ byte ∷ []) rest)
    (λ byte. spelled_with (bytes ++ byte ∷ []) rest))

pub spelled_by_digits : (word : List ℕ) → is_some (bytes_of word) ≡ ((length word % 2 == 0) && list_all is_hex_digit word)
spelled_by_digits word = spelled_with [] word
