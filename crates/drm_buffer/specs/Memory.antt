-- Memory: a list of byte lists.
use Rattle.std.specs.Prelude.{ℕ, ◌+◌, ◌%◌, List, [], ◌++◌, length, map, zip, take, drop, slice_index_or, slice_range, slice_set}

-- the bytes of a buffer
abbrev pub bytes_of : List (List ℕ) → ℕ → List ℕ
bytes_of memory buffer = slice_index_or memory buffer []

-- these bytes with others in their place from an offset on
abbrev pub overwritten : List ℕ → ℕ → List ℕ → List ℕ
overwritten old offset bytes = take offset old ++ bytes ++ drop (offset + length bytes) old

-- the memory with other bytes in one buffer, from an offset on
abbrev pub written : List (List ℕ) → ℕ → ℕ → List ℕ → List (List ℕ)
written memory buffer offset bytes =
    slice_set memory buffer (overwritten (bytes_of memory buffer) offset bytes)

-- the bytes of a range of a buffer
abbrev pub range_of : List (List ℕ) → ℕ → ℕ → ℕ → List ℕ
range_of memory buffer offset len = slice_range (bytes_of memory buffer) offset (offset + len)

-- the sums of two lists of bytes, place by place
abbrev pub sums : List ℕ → List ℕ → List ℕ
sums xs ys = map (λ p. (p.0 + p.1) % 256) (zip xs ys)

-- the sums of a range of the target and as long a range of the source
abbrev pub range_sums : List ℕ → List ℕ → ℕ → ℕ → ℕ → List ℕ
range_sums target source to from len = sums (slice_range target to (to + len)) (slice_range source from (from + len))

-- how many bytes each buffer has
abbrev pub sizes_of : List (List ℕ) → List ℕ
sizes_of memory = map length memory
