-- The device under load.
use Rattle.std.specs.Prelude.{◌≡◌, ◌<◌, ℕ, List, [], ◌∷◌, length, replicate}
use Rattle.drm_types.specs.declared.spec.DeviceSpec.{DeviceSpec}
use Rattle.drm_types.specs.declared.spec.EntitySpec.{EntitySpec}
use Rattle.drm_types.specs.declared.spec.RingSpec.{RingSpec}
use Rattle.drm_types.specs.declared.spec.Priority.TheVariants.{Normal}
use Rattle.drm_buffer.specs.Memory.{bytes_of}

abbrev pub ring : RingSpec
ring = record { credit_limit = 4; timeout = 10; hang_limit = 1 }

abbrev pub entity_on : ℕ → EntitySpec
entity_on r = record { rings = r ∷ []; priority = Normal }

-- three buffers of four zeros, two rings, two entities on each of them, and room for so many jobs
abbrev pub small_of : ℕ → DeviceSpec
small_of jobs = record {
  buffers = replicate 4 0 ∷ replicate 4 0 ∷ replicate 4 0 ∷ [];
  rings = ring ∷ ring ∷ [];
  entities = entity_on 0 ∷ entity_on 1 ∷ entity_on 0 ∷ entity_on 1 ∷ [];
  max_jobs = jobs;
}

-- such a device has three buffers of four bytes, two rings and four entities
pub record IsSmall (spec : DeviceSpec) : Type 0 where
  pub buffers : length spec.buffers ≡ 3
  pub sizes : (b : ℕ) → b < 3 → length (bytes_of spec.buffers b) ≡ 4
  pub rings : length spec.rings ≡ 2
  pub entities : length spec.entities ≡ 4
