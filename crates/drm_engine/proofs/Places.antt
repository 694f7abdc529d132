-- Places of two lists of buffers of the same sizes.
use Rattle.std.proofs.Common.{◌≡◌, ◌≢◌, ℕ, zero, suc, ◌<◌, List, [], ◌∷◌, Some, length, map, take, get_or, refl, ap, ◌∙◌, sym}
use Rattle.std.specs.Prelude.{slice_get}
use Rattle.std.proofs.lemmas.List.{length-map}
use Rattle.std.proofs.lemmas.Option.{get_or_from_slice_get, same_Some, slice_get_read}
use Rattle.drm_buffer.specs.Memory.{bytes_of}
use Rattle.drm_engine.specs.Comparing.{DifferFirstAt}

pub same_count : (xs ys : List (List ℕ)) → map length xs ≡ map length ys → length xs ≡ length ys
same_count xs ys same = sym (length-map xs length) ∙ ap length same ∙ length-map ys length

-- what stands at the same place has the same size
pub same_size : (xs ys : List (List ℕ)) (k : ℕ) (a b : List ℕ) → map length xs ≡ map length ys → slice_get xs k ≡ Some a → slice_get ys k ≡ Some b → length a ≡ length b
same_size [] ys k a b same first second = absurd (cc)
same_size (x ∷ xs) [] k a b same first second = absurd (cc)
same_size (x ∷ xs) (y ∷ ys) zero a b same first second = cc
same_size (x ∷ xs) (y ∷ ys) (suc k) a b same first second =
    let tail : map length xs ≡ map length ys = cc in same_size xs ys k a b tail first second

-- the item that was read at a place
pub read_at : (xs : List (List ℕ)) (k : ℕ) (x a : List ℕ) → k < length xs → x ≡ get_or xs k x → a ≡ x → slice_get xs k ≡ Some a
read_at xs k x a lt read same = slice_get_read xs (length xs) k x refl lt read ∙ ap Some (sym same)

-- buffers that are the same up to this one, which differ there at this byte
pub differ_here : (xs ys : List (List ℕ)) (k i : ℕ) (a b : List ℕ) → slice_get xs k ≡ Some a → slice_get ys k ≡ Some b
    → take k xs ≡ take k ys → DifferFirstAt a b i → DifferFirstAt xs ys k × DifferFirstAt (bytes_of xs k) (bytes_of ys k) i
differ_here xs ys k i a b first second front differ =
    let left : bytes_of xs k ≡ a = get_or_from_slice_get xs k a [] first in
    let right : bytes_of ys k ≡ b = get_or_from_slice_get ys k b [] second in
    let other : slice_get xs k ≢ slice_get ys k = λ same. differ.1 (ap (λ (s : List ℕ). slice_get s i) (same_Some a b (sym first ∙ same ∙ second))) in
    ((front, other), rw (left, right) differ)
