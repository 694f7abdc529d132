-- No buffer of a device is empty, no list of an entity's rings is, and none of the last bytes of a journal are.
use Rattle.std.proofs.Common.{◌≡◌, ℕ, Bool, true, List, [], ◌∷◌, length, map, None, refl}
use Rattle.std.specs.Prelude.{nat_le}
use Rattle.std.specs.List.{AllByRecursion}
use Rattle.std.proofs.lemmas.Bool.{and_parts, leb-true}
use Rattle.drm_types.specs.declared.spec.DeviceSpec.{DeviceSpec}
use Rattle.drm_types.specs.declared.spec.EntitySpec.{EntitySpec}
use Rattle.drm_types.specs.Limits.{is_between, are_rings, each, spec_fault, spec_tests}
use Rattle.drm_text.specs.Grammar.{AreBytes}
use Rattle.drm_types.proofs.Firsts.{none_at, each_passes}
use Rattle.drm_parse.specs.Grammar.{IsNumber, EntityFits}
use Rattle.drm_script_writer.specs.Headers.{HasBytes}

-- the size of a buffer is within the limits
abbrev IsSized : List ℕ → Type 0
IsSized bytes = is_between 1 4096 (length bytes) ≡ true

pub buffers_sized : (spec : DeviceSpec) → spec_fault spec ≡ None → AllByRecursion IsSized spec.buffers
buffers_sized spec none =
    each_passes (λ (bytes : List ℕ). is_between 1 4096 (length bytes)) spec.buffers (λ i. record { part = 1; index = i })
    (none_at (spec_tests spec) 1 (each 1 (λ bytes. is_between 1 4096 (length bytes)) spec.buffers) none refl)

-- the list of an entity's rings is one for so many rings
abbrev IsListed : ℕ → EntitySpec → Type 0
IsListed count entity = are_rings count entity.rings ≡ true

pub rings_listed : (spec : DeviceSpec) → spec_fault spec ≡ None → AllByRecursion (IsListed (length spec.rings)) spec.entities
rings_listed spec none =
    let listed : EntitySpec → Bool = λ entity. are_rings (length spec.rings) entity.rings in
    each_passes listed spec.entities (λ i. record { part = 7; index = i })
    (none_at (spec_tests spec) 7 (each 7 listed spec.entities) none refl)

-- so each lists one ring or more
pub entities_fit : (count : ℕ) (es : List EntitySpec) → AllByRecursion (IsListed count) es → AllByRecursion (λ entity. AllByRecursion IsNumber entity.rings) es
    → AllByRecursion EntityFits es
entities_fit count [] listed are = tt
entities_fit count (e ∷ es) listed are =
    let sized : is_between 1 8 (length e.rings) ≡ true = (and_parts _ _ (and_parts _ _ listed.0).0).0 in
    ((leb-true 1 (length e.rings) (and_parts (nat_le 1 (length e.rings)) (nat_le (length e.rings) 8) sized).0, are.0), entities_fit count es listed.1 are.1)

-- lists as long as these are sized too
pub as_sized : (finals buffers : List (List ℕ)) → map length finals ≡ map length buffers → AllByRecursion IsSized buffers → AllByRecursion IsSized finals
as_sized [] buffers same sized = tt
as_sized (f ∷ finals) [] same sized = absurd (cc)
as_sized (f ∷ finals) (b ∷ buffers) same sized =
    let head : length f ≡ length b = cc in
    let tail : map length finals ≡ map length buffers = cc in
    (rw head sized.0, as_sized finals buffers tail sized.1)

-- so each has one byte or more
pub filled : (xs : List (List ℕ)) → AllByRecursion IsSized xs → AllByRecursion HasBytes xs → AllByRecursion AreBytes xs
filled [] sized are = tt
filled (x ∷ xs) sized are =
    ((leb-true 1 (length x) (and_parts (nat_le 1 (length x)) (nat_le (length x) 4096) sized.0).0, are.0), filled xs sized.1 are.1)
