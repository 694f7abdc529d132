-- How the header of a device is written.
use Rattle.std.specs.Prelude.{ℕ, ◌<◌, List, [], ◌∷◌, ◌++◌, flat_map, codes}
use Rattle.std.specs.Fmt.{decimal}
use Rattle.std.specs.List.{AllByRecursion}
use Rattle.drm_types.specs.declared.spec.DeviceSpec.{DeviceSpec}
use Rattle.drm_types.specs.declared.spec.EntitySpec.{EntitySpec}
use Rattle.drm_types.specs.declared.spec.Priority.{Priority}
use Rattle.drm_types.specs.declared.spec.Priority.TheVariants as priority
use Rattle.drm_types.specs.declared.spec.RingSpec.{RingSpec}
use Rattle.drm_text.specs.Hexadecimal.{text_of_bytes}
use Rattle.drm_parse.specs.Grammar.{IsNumber, RingFits}
use Rattle.drm_answer.specs.Answers.{numbers, separated}

-- a word, bytes as digits, and the line's end
abbrev pub line_of_bytes : List ℕ → List ℕ → List ℕ
line_of_bytes word bytes = word ++ text_of_bytes bytes ++ 10 ∷ []

abbrev pub line_of_ring : RingSpec → List ℕ
line_of_ring ring = codes "ring" ++ numbers (ring.credit_limit ∷ ring.timeout ∷ ring.hang_limit ∷ []) ++ 10 ∷ []

abbrev pub text_of_priority : Priority → List ℕ
text_of_priority priority.Kernel = codes " kernel"
text_of_priority priority.High = codes " high"
text_of_priority priority.Normal = codes " normal"
text_of_priority priority.Low = codes " low"

-- the rings of an entity: each but the first after a comma
abbrev pub text_of_rings : List ℕ → List ℕ
text_of_rings [] = []
text_of_rings (ring ∷ rings) = decimal ring ++ separated 44 rings

abbrev pub line_of_entity : EntitySpec → List ℕ
line_of_entity entity = codes "entity " ++ text_of_rings entity.rings ++ text_of_priority entity.priority ++ 10 ∷ []

unfoldable pub text_of_header : DeviceSpec → List ℕ
text_of_header spec =
    flat_map (line_of_bytes (codes "buffer ")) spec.buffers
    ++ flat_map line_of_ring spec.rings
    ++ flat_map line_of_entity spec.entities
    ++ codes "jobs" ++ numbers (spec.max_jobs ∷ []) ++ codes "\ngo\n"

-- each of these is a byte
abbrev pub HasBytes : List ℕ → Type 0
HasBytes bytes = AllByRecursion (λ byte. byte < 256) bytes

-- the numbers and bytes of a device are in the ranges of texts
abbrev pub DeviceFits : DeviceSpec → Type 0
DeviceFits spec =
    AllByRecursion HasBytes spec.buffers × AllByRecursion RingFits spec.rings × AllByRecursion (λ entity. AllByRecursion IsNumber entity.rings) spec.entities
    × IsNumber spec.max_jobs
