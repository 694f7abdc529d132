-- Why a device is not built.
use Rattle.std.specs.Prelude.{◌≡◌, Some, None}
use Rattle.drm_types.specs.declared.spec.DeviceSpec.{DeviceSpec}
use Rattle.drm_types.specs.Limits.{spec_fault}
use Rattle.drm_table.specs.declared.life.BuildError.{BuildError}
use Rattle.drm_table.specs.declared.life.BuildError.TheVariants.{Spec, Memory}

-- the refusal names the first part of the description that is out of its limits, and memory is refused only where there
-- is none
abbrev pub RefusesToBuild : DeviceSpec → BuildError → Type 0
RefusesToBuild spec (Spec bad) = spec_fault spec ≡ Some bad
RefusesToBuild spec Memory = spec_fault spec ≡ None
