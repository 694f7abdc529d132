use Rattle.std.proofs.Common.{rules}
use Rattle.drm_sched.proofs.device_calls.Device.is_step_blocked.Goals as goal

pub returns : goal.returns
returns c = search rules
