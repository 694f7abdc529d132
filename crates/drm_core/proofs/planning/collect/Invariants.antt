use Rattle.std.proofs.Common.{take}
use Rattle.drm_types.specs.declared.spec.DeviceSpec.{DeviceSpec}
use Rattle.drm_job.specs.Fault.{IsJob}
use Rattle.drm_state.specs.Collected.{IsCollected}
use Rattle.drm_core.specs.Planning.{declared_kept}
use Rattle.drm_core.proofs.planning.collect.Given as goal

abbrev pub invariant-loop-use_of : goal.invariant-loop-use_of
invariant-loop-use_of l = (spec : DeviceSpec) → IsJob spec l.job → IsCollected l.job (declared_kept l.reservations (take l.use_of-index l.declared)) l.deps
