-- What of a run may cross threads.
use denote.Param.Send.{IsSend, IsSync, sendable}
use Rattle.std.proofs.Crossing.{crosses}
use Rattle.drm_gpu.specs.contracts.gpu.Gpu as Gpu
use Rattle.drm_gpu.specs.contracts.pass.Pass as Pass
use Rattle.drm_workers.proofs.work.Duty.TheSendSync as duty
use Rattle.drm_workers.specs.contracts.work.Worker as Worker

pub worker_send : IsSend (Pass.the_field).row → IsSend (Worker.the_field).row
worker_send p = let d = duty.the_field_send in search sendable depth 20

pub gpu_row_sync : IsSync (Gpu.the_field).row → IsSync Gpu.the_row
gpu_row_sync h = search (sendable, crosses) depth 20
