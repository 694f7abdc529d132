-- A buffer that is taken out, overwritten and put back.
use Rattle.std.proofs.Common.{◌≡◌, ℕ, ◌+◌, ◌-◌, ◌≤◌, List, [], ◌++◌, length, set, take, drop, ap, ◌∙◌, arith, slice_range}
use Rattle.std.specs.List.{copy_within}
use Rattle.std.proofs.Math.Seq.{take_at}
use Rattle.std.proofs.lemmas.List.{set-set, get_or-set_other}
use Rattle.drm_buffer.proofs.Sums.{length-range}
use Rattle.drm_buffer.specs.Memory.{bytes_of, overwritten, written}

-- the memory after the buffer was put back
pub put_back : (memory out after : List (List ℕ)) (buffer offset : ℕ) (taken now bytes : List ℕ) → taken ≡ bytes_of memory buffer → out ≡ set memory buffer []
    → now ≡ overwritten taken offset bytes → after ≡ set out buffer now → after ≡ written memory buffer offset bytes
put_back memory out after buffer offset taken now bytes was empty over back =
    back
    ∙ (ap (λ (m : List (List ℕ)). set m buffer now) empty
    ∙ (set-set memory buffer [] now
    ∙ ap (set memory buffer) (over ∙ ap (λ (r : List ℕ). overwritten r offset bytes) was)))

-- a list that is overwritten through its slice
pub through_slice : (items now : List ℕ) (len : ℕ) → length now ≡ len → take len (now ++ drop (length now) items) ≡ now
through_slice items now len same = take_at now (drop (length now) items) len same

-- a list that is overwritten through its slice, by bytes of the same length
pub through : (items now old bytes : List ℕ) (len at : ℕ) → now ≡ overwritten old at bytes → old ≡ items → length now ≡ len
    → take len (now ++ drop (length now) items) ≡ overwritten items at bytes
through items now old bytes len at over same count =
    through_slice items now len count ∙ (over ∙ ap (λ (r : List ℕ). overwritten r at bytes) same)

-- a copy within one list
pub copied_within : (items : List ℕ) (to from len : ℕ) → from + len ≤ length items
    → copy_within items from (from + len) to ≡ overwritten items to (slice_range items from (from + len))
copied_within items to from len fits =
    let count : (from + len) - from ≡ length (slice_range items from (from + len)) = omega (arith, length-range items from len fits) in
    ap (λ k. take to items ++ slice_range items from (from + len) ++ drop (to + k) items) count

-- another buffer than the one that is out
pub other_bytes : (memory out : List (List ℕ)) (taken buffer : ℕ) → out ≡ set memory taken [] → (buffer ≡ taken → ⊥) → bytes_of out buffer ≡ bytes_of memory buffer
other_bytes memory out taken buffer empty other =
    ap (λ (m : List (List ℕ)). bytes_of m buffer) empty ∙ get_or-set_other memory taken buffer [] [] other
