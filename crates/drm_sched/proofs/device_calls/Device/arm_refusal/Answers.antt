use Rattle.std.proofs.Common.{rules}
use Rattle.drm_sched.proofs.device_calls.Device.arm_refusal.Goals as goal

pub returns : goal.returns
returns c = search rules
