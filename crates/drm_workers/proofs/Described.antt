-- Numbers of a description that is in its limits.
use Rattle.std.proofs.Common.{◌≡◌, ◌≤◌, ℕ, length, refl, Some, None, slice_get}
use Rattle.std.specs.Prelude.{nat_le}
use Rattle.std.proofs.lemmas.Bool.{and_parts, leb-true}
use Rattle.drm_types.specs.declared.spec.DeviceSpec.{DeviceSpec}
use Rattle.drm_types.specs.Limits.{is_between, spec_fault, whole, spec_tests}
use Rattle.drm_types.proofs.Firsts.{none_at, none_when}
use Rattle.drm_workers.specs.declared.RunFault.{RunFault}
use Rattle.drm_workers.specs.declared.RunFault.TheVariants.{Spec, Memory, NoThread, GaveUp}
use Rattle.drm_workers.specs.Faults.{IsFaultOf, IsOfWorkers}

few : (spec : DeviceSpec) (part most n : ℕ) → spec_fault spec ≡ None → slice_get (spec_tests spec) part ≡ Some (whole part (is_between 1 most n)) → n ≤ most
few spec part most n none at =
    leb-true n most (and_parts (nat_le 1 n) (nat_le n most) (none_when (is_between 1 most n) (record { part = part; index = 0 }) (none_at (spec_tests spec) part (whole part (is_between 1 most n)) none at))).1

pub few_rings : (spec : DeviceSpec) → spec_fault spec ≡ None → length spec.rings ≤ 8
few_rings spec none = few spec 2 8 (length spec.rings) none refl

-- what else ends a run comes of a description that is in its limits
pub fault_of_workers : (spec : DeviceSpec) → spec_fault spec ≡ None → (fault : RunFault) → IsOfWorkers fault → IsFaultOf spec fault
fault_of_workers spec none (Spec bad) never = absurd never
fault_of_workers spec none Memory u = none
fault_of_workers spec none NoThread u = none
fault_of_workers spec none (GaveUp worker) u = none

pub few_jobs : (spec : DeviceSpec) → spec_fault spec ≡ None → spec.max_jobs ≤ 65535
few_jobs spec none = few spec 8 65535 spec.max_jobs none refl
