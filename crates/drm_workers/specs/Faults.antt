-- Why a run is not reported.
use Rattle.std.specs.Prelude.{◌≡◌, Some, None}
use Rattle.drm_types.specs.declared.spec.DeviceSpec.{DeviceSpec}
use Rattle.drm_types.specs.Limits.{spec_fault}
use Rattle.drm_workers.specs.declared.RunFault.{RunFault}
use Rattle.drm_workers.specs.declared.RunFault.TheVariants.{Spec, Memory, NoThread, GaveUp}

-- the fault is none of a description
abbrev pub IsOfWorkers : RunFault → Type 0
IsOfWorkers (Spec bad) = ⊥
IsOfWorkers Memory = Unit {0}
IsOfWorkers NoThread = Unit {0}
IsOfWorkers (GaveUp worker) = Unit {0}

-- a fault of the description names its first part that is out of its limits, and comes before all others
abbrev pub IsFaultOf : DeviceSpec → RunFault → Type 0
IsFaultOf spec (Spec bad) = spec_fault spec ≡ Some bad
IsFaultOf spec Memory = spec_fault spec ≡ None
IsFaultOf spec NoThread = spec_fault spec ≡ None
IsFaultOf spec (GaveUp worker) = spec_fault spec ≡ None
