use Rattle.std.proofs.Common.{rules}
use Rattle.drm_types.proofs.spec.DeviceSpec.check_ring_count.Goals as goal

pub returns : goal.returns
returns c = search rules
