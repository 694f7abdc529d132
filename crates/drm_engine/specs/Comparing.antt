-- Where two lists of buffers differ first.
use Rattle.std.specs.Prelude.{◌≡◌, ◌≢◌, ℕ, List, ◌++◌, take, slice_get, codes}
use Rattle.std.specs.Fmt.{decimal}
use Rattle.drm_buffer.specs.Memory.{bytes_of}
use Rattle.drm_engine.specs.declared.comparison.Comparison.{Comparison}
use Rattle.drm_engine.specs.declared.comparison.Comparison.TheVariants as comparison

-- the lists are the same up to this place, and differ there
abbrev pub DifferFirstAt : {X : Type 0} → List X → List X → ℕ → Type 0
DifferFirstAt xs ys place = (take place xs ≡ take place ys) × (slice_get xs place ≢ slice_get ys place)

-- all bytes are the same, or this is the first buffer that differs, and the first byte in it
abbrev pub Compares : List (List ℕ) → List (List ℕ) → Comparison → Type 0
Compares left told comparison.Same = left ≡ told
Compares left told (comparison.Differs buffer byte) =
    DifferFirstAt left told buffer × DifferFirstAt (bytes_of left buffer) (bytes_of told buffer) byte

-- the line of a comparison
abbrev pub text_of_comparison : Comparison → List ℕ
text_of_comparison comparison.Same = codes "same\n"
text_of_comparison (comparison.Differs buffer byte) =
    codes "differs at buffer " ++ decimal buffer ++ codes " byte " ++ decimal byte ++ codes "\n"
