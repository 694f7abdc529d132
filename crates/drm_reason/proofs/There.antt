-- The entity and the ring of a job, and a ring on which something is pending, are there.
use Rattle.std.proofs.Common.{◌≡◌, ℕ, ◌<◌, ◌⊎◌, true, [], length, Some, None, Option, refl, subst, slice_get}
use Rattle.std.specs.Prelude.{Contains, not, nat_lt}
use Rattle.std.specs.Option.{option_map_or}
use Rattle.std.proofs.lemmas.Bool.{ltb-true}
use Rattle.std.proofs.lemmas.Option.{slice_get_within}
use Rattle.drm_types.specs.Firsts.{when, first}
use Rattle.drm_types.specs.Limits.{are_rings, each, spec_fault, spec_tests}
use Rattle.drm_types.specs.declared.spec.DeviceSpec.{DeviceSpec}
use Rattle.drm_types.specs.declared.spec.EntitySpec.{EntitySpec}
use Rattle.drm_types.proofs.Firsts.{none_at, none_when, passes_at}
use Rattle.drm_job.specs.declared.Draft.{Draft}
use Rattle.drm_job.specs.declared.JobFault.TheVariants.{NoEntity}
use Rattle.drm_job.specs.Fault.{IsJob, job_tests}
use Rattle.drm_state.specs.declared.journal.JobRecord.{JobRecord}
use Rattle.drm_state.specs.State.{RingState, DeviceState}
use Rattle.drm_state.specs.Lawful.{IsLawfulDevice}
use Rattle.drm_state.specs.Ring.{pending_of}
use Rattle.drm_state.specs.Steady.{IsRingOf, IsSteady}
use Rattle.drm_reason.specs.Watching.{IsThere}
use Rattle.drm_state.proofs.Homes.{listed_there}
use Rattle.drm_lists.proofs.Places.{stands_within}

-- the entity of a job
entity_there : (spec : DeviceSpec) (job : Draft) → IsJob spec job → job.entity < length spec.entities
entity_there spec job is =
    ltb-true job.entity (length spec.entities)
    (none_when (nat_lt job.entity (length spec.entities)) NoEntity
    (none_at (job_tests spec job) 0 (when (not (nat_lt job.entity (length spec.entities))) NoEntity) is refl))

-- a ring that is listed for an entity
ring_there : (spec : DeviceSpec) (entity ring : ℕ) → spec_fault spec ≡ None → entity < length spec.entities → IsRingOf spec entity ring
    → ring < length spec.rings
ring_there spec entity ring limits within listed =
    let row = stands_within spec.entities entity within in
    let fit : are_rings (length spec.rings) row.0.rings ≡ true =
    passes_at (λ (x : EntitySpec). are_rings (length spec.rings) x.rings) spec.entities (λ i. record { part = 7; index = i }) entity row.0
    (none_at (spec_tests spec) 7 (each 7 (λ (x : EntitySpec). are_rings (length spec.rings) x.rings) spec.entities) limits refl) row.1 in
    listed_there row.0.rings (length spec.rings) ring fit
    (subst
    (λ o. (ring ≡ option_map_or (λ r. r) (first (option_map_or (λ (x : EntitySpec). x.rings) o [])) 0)
    ⊎ Contains (option_map_or (λ (x : EntitySpec). x.rings) o []) ring)
    row.1 listed)

-- both are, of an armed job
pub job_there : (d : DeviceState) (n : ℕ) (job : JobRecord) → IsSteady d → spec_fault d.spec ≡ None → slice_get d.journal n ≡ Some job → IsThere d job
job_there d n job steady limits at =
    let here = entity_there d.spec job.job (steady.lawful.records n job at).job in
    record { entity = here; ring = ring_there d.spec job.job.entity job.ring limits here (steady.listed n job at) }

-- a ring with a pending job
pub pending_there : (d : DeviceState) (ring place f : ℕ) → IsLawfulDevice d → slice_get (pending_of d ring) place ≡ Some f → ring < length d.spec.rings
pending_there d ring place f lawful at = by_row (slice_get d.rings ring) refl at
  where
    by_row : (o : Option RingState) → slice_get d.rings ring ≡ o → slice_get (option_map_or (λ (s : RingState). s.pending) o []) place ≡ Some f
        → ring < length d.spec.rings
    by_row None none at = absurd (let never : None ≡ Some f = at in cc (never))
    by_row (Some s) some at = subst (λ n. ring < n) lawful.ring_count (slice_get_within d.rings ring s some)
