use Rattle.std.proofs.Common.{rules}
use Rattle.drm_sched.proofs.device_calls.Device.build.Goals as goal

pub returns-in-Err-clause-err : goal.returns-in-Err-clause-err
returns-in-Err-clause-err c = search rules
