-- Sums of as many bytes as a vector has lanes, stored at once.
use Rattle.std.proofs.Common.{◌≡◌, ℕ, ◌+◌, ◌-◌, ◌%◌, ◌<◌, ◌≤◌, List, [], ◌∷◌, ◌++◌, length, get_or, take, drop, refl, sym, ap, ◌∙◌, arith, slice_range, append_assoc}
use Rattle.std.specs.Simd.Lanes.{zip2, chunk, put_chunk}
use Rattle.std.proofs.Math.Seq.{paste, take-add}
use Rattle.std.proofs.lemmas.Grind.{same_number_lists}
use Rattle.std.proofs.lemmas.List.{get_or-take, get_or-drop, drop-drop, length-take-le, length-drop}
use Rattle.std.proofs.lemmas.List.Edits.{paste_all, paste-paste, length-paste}
use Rattle.std.proofs.lemmas.Simd.{put_chunk_is}
use Rattle.drm_buffer.specs.Memory.{overwritten, sums, range_sums}
use Rattle.drm_buffer.proofs.Sums.{range_sums_at, length-range_sums, paste_behind}

-- lanes that are added make the sums
pub added : (f : ℕ → ℕ → ℕ) → ((x y : ℕ) → f x y ≡ (x + y) % 256) → (xs ys : List ℕ) → zip2 f xs ys ≡ sums xs ys
added f is [] ys = refl
added f is (x ∷ xs) [] = refl
added f is (x ∷ xs) (y ∷ ys) = ap (λ z. z ∷ zip2 f xs ys) (is x y) ∙ ap (λ zs. (x + y) % 256 ∷ zs) (added f is xs ys)

-- a vector that is loaded from a range
pub loaded : (xs : List ℕ) (at len : ℕ) → chunk at len xs ≡ slice_range xs at (at + len)
loaded xs at len =
    let same : (at + len) - at ≡ len = omega arith in
    ap (λ n. take n (drop at xs)) (sym same)

-- a vector of sums that is stored over a range
pub stored : (f : ℕ → ℕ → ℕ) → ((x y : ℕ) → f x y ≡ (x + y) % 256) → (target source : List ℕ) (to from len : ℕ) → to + len ≤ length target → from + len ≤ length source
    → put_chunk to target (zip2 f (chunk to len target) (chunk from len source)) ≡ overwritten target to (range_sums target source to from len)
stored f is target source to from len t s =
    let ys : List ℕ = range_sums target source to from len in
    let count = length-range_sums target source to from len t s in
    ap (put_chunk to target) (added f is (chunk to len target) (chunk from len source)
    ∙ (ap (λ z. sums z (chunk from len source)) (loaded target to len) ∙ ap (sums (slice_range target to (to + len))) (loaded source from len)))
    ∙ (put_chunk_is to target ys (omega (arith, count, t))
    ∙ (ap (λ r. take to target ++ (ys ++ r)) (drop-drop (length ys) to target) ∙ sym (append_assoc (take to target) ys (drop (to + length ys) target))))

-- ---- a range that is overwritten one vector after another

-- the sums of a part of a range, of bytes that are as they were, are a part of its sums
pub part_of_sums : (old source now from_now : List ℕ) (to from len n m : ℕ) → to + len ≤ length old → from + len ≤ length source → n + m ≤ len
    → to + len ≤ length now → from + len ≤ length from_now
    → ((k : ℕ) → k < m → get_or now (to + n + k) 0 ≡ get_or old (to + n + k) 0) → ((k : ℕ) → k < m → get_or from_now (from + n + k) 0 ≡ get_or source (from + n + k) 0)
    → range_sums now from_now (to + n) (from + n) m ≡ take m (drop n (range_sums old source to from len))
part_of_sums old source now from_now to from len n m t s within t' s' same_target same_source =
    let ys : List ℕ = range_sums old source to from len in
    let zs : List ℕ = range_sums now from_now (to + n) (from + n) m in
    let count : length ys ≡ len = length-range_sums old source to from len t s in
    let part : length zs ≡ m = length-range_sums now from_now (to + n) (from + n) m (omega arith) (omega arith) in
    let rest = length-drop n ys in
    let cut : length (take m (drop n ys)) ≡ m = length-take-le m (drop n ys) (omega arith) in
    same_number_lists zs (take m (drop n ys)) (part ∙ sym cut) (λ k lt.
    let inside : k < m = omega (arith, lt, part) in
    let target : get_or now (to + n + k) 0 ≡ get_or old (to + (n + k)) 0 = same_target k inside ∙ ap (λ i. get_or old i 0) (omega arith) in
    let from_source : get_or from_now (from + n + k) 0 ≡ get_or source (from + (n + k)) 0 = same_source k inside ∙ ap (λ i. get_or source i 0) (omega arith) in
    range_sums_at now from_now (to + n) (from + n) m k (omega arith) (omega arith) inside
    ∙ (ap (λ x. (x + get_or from_now (from + n + k) 0) % 256) target
    ∙ (ap (λ x. (get_or old (to + (n + k)) 0 + x) % 256) from_source
    ∙ (sym (range_sums_at old source to from len (n + k) t s (omega arith))
    ∙ (sym (get_or-drop n ys k 0) ∙ sym (get_or-take m (drop n ys) k 0 inside))))))

-- a part more that is overwritten
pub part_more : (old ys : List ℕ) (to n m : ℕ) → to ≤ length old → n + m ≤ length ys
    → overwritten (paste old to ys n) (to + n) (take m (drop n ys)) ≡ paste old to ys (n + m)
part_more old ys to n m fits within =
    let front : List ℕ = take n ys in
    let zs : List ℕ = take m (drop n ys) in
    let rest = length-drop n ys in
    let first : n ≡ length front = sym (length-take-le n ys (omega arith)) in
    let second : m ≡ length zs = sym (length-take-le m (drop n ys) (omega arith)) in
    let both : n + m ≡ length (front ++ zs) = sym (ap length (sym (take-add n m ys)) ∙ length-take-le (n + m) ys within) in
    let is : paste old to ys n ≡ paste old to front n = append_assoc (take to old) front (drop (to + n) old) ∙ sym (paste_all old to front n first) in
    let over : (xs : List ℕ) → overwritten xs (to + n) zs ≡ paste xs (to + n) zs m =
    λ xs. ap (λ k. take (to + n) xs ++ zs ++ drop (to + n + k) xs) (sym second) ∙ (append_assoc (take (to + n) xs) zs (drop (to + n + m) xs) ∙ sym (paste_all xs (to + n) zs m second)) in
    over (paste old to ys n)
    ∙ (ap (λ xs. paste xs (to + n) zs m) is
    ∙ (paste-paste old to front zs n m first second fits
    ∙ (paste_all old to (front ++ zs) (n + m) both
    ∙ (sym (append_assoc (take to old) (front ++ zs) (drop (to + (n + m)) old)) ∙ ap (λ zs. take to old ++ zs ++ drop (to + (n + m)) old) (sym (take-add n m ys))))))

-- a vector of sums more
pub lanes_rise : (old source now from_now : List ℕ) (to from len n m : ℕ) → to + len ≤ length old → from + len ≤ length source → n + m ≤ len
    → from + len ≤ length from_now → now ≡ paste old to (range_sums old source to from len) n
    → ((k : ℕ) → k < m → get_or from_now (from + n + k) 0 ≡ get_or source (from + n + k) 0)
    → overwritten now (to + n) (range_sums now from_now (to + n) (from + n) m) ≡ paste old to (range_sums old source to from len) (n + m)
lanes_rise old source now from_now to from len n m t s within s' is same =
    let ys : List ℕ = range_sums old source to from len in
    let count : length ys ≡ len = length-range_sums old source to from len t s in
    let size : length now ≡ length old = ap length is ∙ length-paste old to ys n (omega arith) (omega arith) in
    let stays : (k : ℕ) → k < m → get_or now (to + n + k) 0 ≡ get_or old (to + n + k) 0 =
    λ k lt. ap (λ (r : List ℕ). get_or r (to + n + k) 0) is ∙ paste_behind old ys to n k (omega arith) (omega arith) in
    ap (overwritten now (to + n)) (part_of_sums old source now from_now to from len n m t s within (omega arith) s' stays same)
    ∙ (ap (λ (r : List ℕ). overwritten r (to + n) (take m (drop n ys))) is ∙ part_more old ys to n m (omega arith) (omega arith))

-- where the source is the target itself, no place of it that comes is overwritten
pub lanes_rise_within : (old now : List ℕ) (to from len n m : ℕ) → to ≤ from → from + len ≤ length old → n + m ≤ len
    → now ≡ paste old to (range_sums old old to from len) n
    → overwritten now (to + n) (range_sums now now (to + n) (from + n) m) ≡ paste old to (range_sums old old to from len) (n + m)
lanes_rise_within old now to from len n m order s within is =
    let ys : List ℕ = range_sums old old to from len in
    let count : length ys ≡ len = length-range_sums old old to from len (omega arith) s in
    let size : length now ≡ length old = ap length is ∙ length-paste old to ys n (omega arith) (omega arith) in
    lanes_rise old old now now to from len n m (omega arith) s within (omega arith) is (λ k lt.
    let behind : from + n + k ≡ to + n + (from - to + k) = omega arith in
    rw behind (ap (λ (r : List ℕ). get_or r (to + n + (from - to + k)) 0) is ∙ paste_behind old ys to n (from - to + k) (omega arith) (omega arith)))
