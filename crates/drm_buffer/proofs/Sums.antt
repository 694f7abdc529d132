-- A range that is overwritten one place after another, by sums.
use Rattle.std.proofs.Common.{◌≡◌, ℕ, zero, suc, ◌+◌, ◌-◌, ◌%◌, ◌<◌, ◌≤◌, List, [], ◌∷◌, ◌++◌, length, get_or, set, take, drop, refl, sym, ap, ◌∙◌, arith, slice_range, append_assoc, append-nil, subst, drop-cons, add-one, add-zero}
use Rattle.std.proofs.Math.Seq.{paste, take-set-lt}
use Rattle.std.proofs.Math.ListN.{drop_of_length-le}
use Rattle.std.proofs.lemmas.List.{take-append-drop, get_or-take, get_or-drop, length-take-le, length-drop, length-append, set-append_left, take_more_set, get_or_append_left}
use Rattle.std.proofs.lemmas.List.Edits.{paste_more, paste_all, drop-paste}
use Rattle.drm_buffer.specs.Memory.{overwritten, sums, range_sums}

-- a sum at its place
pub sums_at : (xs ys : List ℕ) (i : ℕ) → i < length xs → i < length ys → get_or (sums xs ys) i 0 ≡ (get_or xs i 0 + get_or ys i 0) % 256
sums_at [] ys i h g = absurd (omega arith)
sums_at (x ∷ xs) [] i h g = absurd (omega arith)
sums_at (x ∷ xs) (y ∷ ys) zero h g = refl
sums_at (x ∷ xs) (y ∷ ys) (suc i) h g = sums_at xs ys i (omega (arith, h)) (omega (arith, g))

-- as many sums as there are bytes in each list
pub length-sums : (xs ys : List ℕ) → length xs ≡ length ys → length (sums xs ys) ≡ length ys
length-sums [] [] h = refl
length-sums [] (y ∷ ys) h = absurd (omega (arith, h))
length-sums (x ∷ xs) [] h = absurd (omega (arith, h))
length-sums (x ∷ xs) (y ∷ ys) h = ap suc (length-sums xs ys (omega (arith, h)))

-- a byte of a range
pub range_at : (xs : List ℕ) (offset len i : ℕ) → i < len → get_or (slice_range xs offset (offset + len)) i 0 ≡ get_or xs (offset + i) 0
range_at xs offset len i lt =
    let same : (offset + len) - offset ≡ len = omega arith in
    rw same (get_or-take len (drop offset xs) i 0 lt ∙ get_or-drop offset xs i 0)

-- the length of a range
pub length-range : (xs : List ℕ) (offset len : ℕ) → offset + len ≤ length xs → length (slice_range xs offset (offset + len)) ≡ len
length-range xs offset len fits =
    let same : (offset + len) - offset ≡ len = omega arith in
    rw same (length-take-le len (drop offset xs) (omega (arith, length-drop offset xs)))

-- a sum of two ranges at its place
pub range_sums_at : (target source : List ℕ) (to from len i : ℕ) → to + len ≤ length target → from + len ≤ length source → i < len
    → get_or (range_sums target source to from len) i 0 ≡ (get_or target (to + i) 0 + get_or source (from + i) 0) % 256
range_sums_at target source to from len i t s lt =
    let all = length-range target to len t in
    let both = length-range source from len s in
    sums_at (slice_range target to (to + len)) (slice_range source from (from + len)) i (omega (arith, all, lt)) (omega (arith, both, lt))
    ∙ (ap (λ n. (n + get_or (slice_range source from (from + len)) i 0) % 256) (range_at target to len i lt)
    ∙ ap (λ n. (get_or target (to + i) 0 + n) % 256) (range_at source from len i lt))

-- as many sums as a range is long
pub length-range_sums : (target source : List ℕ) (to from len : ℕ) → to + len ≤ length target → from + len ≤ length source
    → length (range_sums target source to from len) ≡ len
length-range_sums target source to from len t s =
    let all = length-range target to len t in
    let both = length-range source from len s in
    length-sums (slice_range target to (to + len)) (slice_range source from (from + len)) (all ∙ sym both) ∙ both

-- places behind those that were overwritten stay
pub paste_behind : (old ys : List ℕ) (at n i : ℕ) → at ≤ length old → n ≤ length ys → get_or (paste old at ys n) (at + n + i) 0 ≡ get_or old (at + n + i) 0
paste_behind old ys at n i fits some =
    sym (get_or-drop (at + n) (paste old at ys n) i 0) ∙ (ap (λ (r : List ℕ). get_or r i 0) (drop-paste old at ys n fits some) ∙ get_or-drop (at + n) old i 0)

-- the list where all places of the range from n on were overwritten
abbrev pub filled_from : List ℕ → ℕ → List ℕ → ℕ → List ℕ
filled_from old at ys n = overwritten old (at + n) (drop n ys)

-- one place more, towards the front
pub filled_more : (old ys : List ℕ) (at n : ℕ) → at + length ys ≤ length old → n < length ys
    → set (filled_from old at ys (n + 1)) (at + n) (get_or ys n 0) ≡ filled_from old at ys n
filled_more old ys at n fits lt =
    let lengths = length-drop n ys in
    let rest = length-drop (n + 1) ys in
    let front : length (take (at + (n + 1)) old) ≡ at + (n + 1) = length-take-le (at + (n + 1)) old (omega arith) in
    let inside : at + n < length (take (at + (n + 1)) old) = omega arith in
    let both : at + n < length (take (at + (n + 1)) old ++ drop (n + 1) ys) = omega (arith, length-append (take (at + (n + 1)) old) (drop (n + 1) ys)) in
    let behind : at + (n + 1) + length (drop (n + 1) ys) ≡ at + n + length (drop n ys) = omega arith in
    let next : at + (n + 1) ≡ at + n + 1 = omega arith in
    let filled : set (take (at + (n + 1)) old) (at + n) (get_or ys n 0) ≡ take (at + n) old ++ get_or ys n 0 ∷ [] =
    sym (take-set-lt (at + (n + 1)) old (at + n) (get_or ys n 0) (omega arith))
    ∙ (ap (λ k. take k (set old (at + n) (get_or ys n 0))) next ∙ take_more_set old (at + n) (get_or ys n 0) (omega arith)) in
    let cut : drop n ys ≡ get_or ys n 0 ∷ drop (n + 1) ys = rw add-one (drop-cons ys n 0 lt) in
    let end : List ℕ = drop (at + n + length (drop n ys)) old in
    ap (λ k. set (take (at + (n + 1)) old ++ drop (n + 1) ys ++ drop k old) (at + n) (get_or ys n 0)) behind
    ∙ (set-append_left (take (at + (n + 1)) old ++ drop (n + 1) ys) end (at + n) (get_or ys n 0) both
    ∙ (ap (λ (r : List ℕ). r ++ end) (set-append_left (take (at + (n + 1)) old) (drop (n + 1) ys) (at + n) (get_or ys n 0) inside)
    ∙ (ap (λ (r : List ℕ). r ++ drop (n + 1) ys ++ end) filled
    ∙ (ap (λ (r : List ℕ). r ++ end) (append_assoc (take (at + n) old) (get_or ys n 0 ∷ []) (drop (n + 1) ys))
    ∙ ap (λ (r : List ℕ). take (at + n) old ++ r ++ end) (sym cut)))))

-- places before those that were overwritten stay
pub filled_before : (old ys : List ℕ) (at n k : ℕ) → at + n ≤ length old → k < at + n → get_or (filled_from old at ys n) k 0 ≡ get_or old k 0
filled_before old ys at n k fits lt =
    let front : length (take (at + n) old) ≡ at + n = length-take-le (at + n) old fits in
    let both : k < length (take (at + n) old ++ drop n ys) = omega (arith, length-append (take (at + n) old) (drop n ys)) in
    get_or_append_left (take (at + n) old ++ drop n ys) (drop (at + n + length (drop n ys)) old) 0 k both
    ∙ (get_or_append_left (take (at + n) old) (drop n ys) 0 k (omega arith) ∙ get_or-take (at + n) old k 0 lt)

-- one sum more, from the front on
pub sums_rise : (old source : List ℕ) (to from len i : ℕ) (now : List ℕ) (byte : ℕ) → to + len ≤ length old → from + len ≤ length source → i < len
    → now ≡ paste old to (range_sums old source to from len) i → byte ≡ get_or source (from + i) 0
    → set now (to + i) ((get_or now (to + i) 0 + byte) % 256) ≡ paste old to (range_sums old source to from len) (i + 1)
sums_rise old source to from len i now byte t s lt is same =
    let ys : List ℕ = range_sums old source to from len in
    let count = length-range_sums old source to from len t s in
    let here : get_or now (to + i) 0 ≡ get_or old (to + i) 0 =
    ap (λ (r : List ℕ). get_or r (to + i) 0) is
    ∙ subst (λ k. get_or (paste old to ys i) k 0 ≡ get_or old k 0) (add-zero (to + i)) (paste_behind old ys to i 0 (omega arith) (omega (arith, count))) in
    let sum : (get_or now (to + i) 0 + byte) % 256 ≡ get_or ys i 0 =
    ap (λ n. (n + byte) % 256) here ∙ (ap (λ n. (get_or old (to + i) 0 + n) % 256) same ∙ sym (range_sums_at old source to from len i t s lt)) in
    ap (λ (r : List ℕ). set r (to + i) ((get_or now (to + i) 0 + byte) % 256)) is
    ∙ (ap (λ n. set (paste old to ys i) (to + i) n) sum ∙ paste_more old to ys i 0 (omega arith) (omega (arith, count)))

-- all sums
pub sums_risen : (old source : List ℕ) (to from len i : ℕ) (now : List ℕ) → to + len ≤ length old → from + len ≤ length source → i ≡ len
    → now ≡ paste old to (range_sums old source to from len) i → now ≡ overwritten old to (range_sums old source to from len)
sums_risen old source to from len i now t s all is =
    let ys : List ℕ = range_sums old source to from len in
    let count : i ≡ length ys = all ∙ sym (length-range_sums old source to from len t s) in
    is
    ∙ (paste_all old to ys i count
    ∙ (sym (append_assoc (take to old) ys (drop (to + i) old)) ∙ ap (λ k. take to old ++ ys ++ drop (to + k) old) count))

-- a byte of the source, which stands in front of no place that was overwritten
pub risen_source : (old : List ℕ) (to from len i : ℕ) (now : List ℕ) → to ≤ from → from + len ≤ length old → i < len
    → now ≡ paste old to (range_sums old old to from len) i → get_or now (from + i) 0 ≡ get_or old (from + i) 0
risen_source old to from len i now order s lt is =
    let count = length-range_sums old old to from len (omega arith) s in
    let behind : from + i ≡ to + i + (from - to) = omega arith in
    rw behind (ap (λ (r : List ℕ). get_or r (to + i + (from - to)) 0) is
    ∙ paste_behind old (range_sums old old to from len) to i (from - to) (omega arith) (omega (arith, count)))

-- no sum yet
pub sums_unfallen : (old : List ℕ) (to from len : ℕ) → from ≤ to → to + len ≤ length old
    → old ≡ filled_from old to (range_sums old old to from len) len
sums_unfallen old to from len order t =
    let ys : List ℕ = range_sums old old to from len in
    let none : drop len ys ≡ [] = drop_of_length-le ys (omega (arith, length-range_sums old old to from len t (omega arith))) in
    rw none (sym (ap (λ (r : List ℕ). r ++ drop (to + len + 0) old) (append-nil (take (to + len) old))
    ∙ (ap (λ k. take (to + len) old ++ drop k old) (add-zero (to + len)) ∙ take-append-drop (to + len) old)))

-- one sum more, from the end on
pub sums_fall : (old : List ℕ) (to from len i after : ℕ) (now : List ℕ) → from ≤ to → to + len ≤ length old → i < len → after ≡ i + 1
    → now ≡ filled_from old to (range_sums old old to from len) after
    → set now (to + i) ((get_or now (to + i) 0 + get_or now (from + i) 0) % 256) ≡ filled_from old to (range_sums old old to from len) i
sums_fall old to from len i after now order t lt next is =
    let ys : List ℕ = range_sums old old to from len in
    let count = length-range_sums old old to from len t (omega arith) in
    let was : now ≡ filled_from old to ys (i + 1) = is ∙ ap (filled_from old to ys) next in
    let target : get_or now (to + i) 0 ≡ get_or old (to + i) 0 =
    ap (λ (r : List ℕ). get_or r (to + i) 0) was ∙ filled_before old ys to (i + 1) (to + i) (omega arith) (omega arith) in
    let source : get_or now (from + i) 0 ≡ get_or old (from + i) 0 =
    ap (λ (r : List ℕ). get_or r (from + i) 0) was ∙ filled_before old ys to (i + 1) (from + i) (omega arith) (omega arith) in
    let sum : (get_or now (to + i) 0 + get_or now (from + i) 0) % 256 ≡ get_or ys i 0 =
    ap (λ n. (n + get_or now (from + i) 0) % 256) target
    ∙ (ap (λ n. (get_or old (to + i) 0 + n) % 256) source ∙ sym (range_sums_at old old to from len i t (omega arith) lt)) in
    ap (λ (r : List ℕ). set r (to + i) ((get_or now (to + i) 0 + get_or now (from + i) 0) % 256)) was
    ∙ (ap (λ n. set (filled_from old to ys (i + 1)) (to + i) n) sum ∙ filled_more old ys to i (omega (arith, count)) (omega (arith, count)))

-- all sums, from the end on
pub sums_fallen : (old : List ℕ) (to from len i : ℕ) (now : List ℕ) → i ≡ 0 → now ≡ filled_from old to (range_sums old old to from len) i
    → now ≡ overwritten old to (range_sums old old to from len)
sums_fallen old to from len i now none is =
    let ys : List ℕ = range_sums old old to from len in
    is ∙ (ap (filled_from old to ys) none ∙ ap (λ k. overwritten old k ys) (add-zero to))
