-- What is written over a range leaves every size as it was.
use Rattle.std.proofs.Common.{◌≡◌, ℕ, ◌+◌, ◌≤◌, List, [], ◌++◌, length, take, drop, get_or, sym, ap, ◌∙◌, arith}
use Rattle.std.proofs.Math.ListN.{get_or-map}
use Rattle.std.proofs.Math.Seq.{map-set_same}
use Rattle.std.proofs.lemmas.List.{length-append, length-take-le, length-drop}
use Rattle.drm_buffer.specs.Memory.{bytes_of, overwritten, written, sizes_of}

-- a list keeps its length
pub length-overwritten : (old : List ℕ) (offset : ℕ) (bytes : List ℕ) → offset + length bytes ≤ length old
    → length (overwritten old offset bytes) ≡ length old
length-overwritten old offset bytes fits =
    omega (
      arith,
      length-append (take offset old ++ bytes) (drop (offset + length bytes) old),
      length-append (take offset old) bytes,
      length-take-le offset old (omega (arith, fits)),
      length-drop (offset + length bytes) old,
    )

-- every buffer keeps its size
pub sizes-written : (memory : List (List ℕ)) (buffer offset : ℕ) (bytes : List ℕ) → offset + length bytes ≤ length (bytes_of memory buffer)
    → sizes_of (written memory buffer offset bytes) ≡ sizes_of memory
sizes-written memory buffer offset bytes fits =
    map-set_same length memory buffer (overwritten (bytes_of memory buffer) offset bytes) [] (length-overwritten (bytes_of memory buffer) offset bytes fits)

-- the size of a buffer by the sizes of all
pub size_by_sizes : (memory other : List (List ℕ)) (buffer : ℕ) → sizes_of memory ≡ sizes_of other
    → length (bytes_of memory buffer) ≡ length (bytes_of other buffer)
size_by_sizes memory other buffer same =
    sym (get_or-map length memory buffer [])
    ∙ (ap (λ (sizes : List ℕ). get_or sizes buffer 0) same ∙ get_or-map length other buffer [])
