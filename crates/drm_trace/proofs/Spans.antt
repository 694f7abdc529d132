-- Digits that stand first, and words that end at a place.
use Rattle.std.proofs.Common.{◌≡◌, ℕ, zero, suc, ◌+◌, ◌-◌, ◌<◌, ◌≤◌, Bool, true, false, not, List, [], ◌∷◌, length, drop, slice_index, refl, sym, ◌∙◌, arith}
use Rattle.std.specs.List.{position_or_len}
use Rattle.std.proofs.lemmas.Bool.{eq-eqb, ne_eqb}
use Rattle.std.proofs.lemmas.List.{drop_more, drop_all}
use Rattle.drm_trace.specs.Bytes.{word_start}

-- a byte more of those that stand first before one that passes the test
pub span_more : (p : ℕ → Bool) (bytes : List ℕ) (end : ℕ) → end < length bytes → p (slice_index bytes end) ≡ false
    → end + position_or_len p (drop end bytes) ≡ end + 1 + position_or_len p (drop (end + 1) bytes)
span_more p bytes end lt other =
    let first : position_or_len p (drop end bytes) ≡ 1 + position_or_len p (drop (end + 1) bytes) = rw (drop_more bytes end 0 lt, other) (omega arith) in
    omega (arith, first)

-- the first byte that passes it ends them
pub span_ends : (p : ℕ → Bool) (bytes : List ℕ) (end : ℕ) → end < length bytes → p (slice_index bytes end) ≡ true → position_or_len p (drop end bytes) ≡ 0
span_ends p bytes end lt here = rw (drop_more bytes end 0 lt, here) refl

-- and so does the end of the bytes
pub span_all : (p : ℕ → Bool) (bytes : List ℕ) (end : ℕ) → length bytes ≤ end → position_or_len p (drop end bytes) ≡ 0
span_all p bytes end le = rw (drop_all end bytes le) refl

-- a byte that is no space belongs to the word before it
pub word_back : (bytes : List ℕ) (start : ℕ) → 0 < start → (slice_index bytes (start - 1) ≡ 32 → ⊥) → word_start bytes start ≡ word_start bytes (start - 1)
word_back bytes zero some other = absurd (omega (arith, some))
word_back bytes (suc start) some other =
    let before : suc start - 1 ≡ start = omega arith in
    let differs : slice_index bytes start ≡ 32 → ⊥ = rw before at other in
    rw (before, ne_eqb (slice_index bytes start) 32 differs) refl

-- a space ends it
pub word_stop : (bytes : List ℕ) (start : ℕ) → 0 < start → slice_index bytes (start - 1) ≡ 32 → word_start bytes start ≡ start
word_stop bytes zero some is = absurd (omega (arith, some))
word_stop bytes (suc start) some is =
    let before : suc start - 1 ≡ start = omega arith in
    let space : slice_index bytes start ≡ 32 = rw before at is in
    rw (eq-eqb (slice_index bytes start) 32 space) refl
