use denote.Param.Send.{IsSend, IsSync, sendable}
use Rattle.std.proofs.Crossing.{crosses}
use Rattle.drm_gpu.specs.contracts.driver.Driver as Driver
use Rattle.drm_gpu.specs.contracts.driver.Task as Task
use Rattle.drm_gpu.specs.contracts.driver.DriverWard.TheImpl.{ghosts as ward}
use Rattle.drm_sched.specs.contracts.device_calls.Device as Device
use Rattle.drm_gpu.specs.contracts.boxed_plan.Contents as Contents
use Rattle.drm_job.specs.contracts.job.Job as Job
use Rattle.drm_resv.specs.contracts.deps.Deps as Deps
use Rattle.drm_resv.specs.contracts.resv.Resv as Resv
use Rattle.ww_lock.specs.contracts.board.Board as Board
use Rattle.ww_lock.specs.contracts.seat.Seat as Seat
use Rattle.ww_lock.specs.contracts.wait_queue.WaitQueue as WaitQueue
use Rattle.std.proofs.sync.atomic.AtomicU64.TheSendSync as atomic
use Rattle.drm_gpu.proofs.gpu.Gpu.crosses_threads.Goals as goal

pub returns-clause-pass : goal.returns-clause-pass
returns-clause-pass c =
    let s = c.crosses_threads.ensures.seats in
    let seat : IsSend (Seat.the_field Device.the_row Resv.the_row Task.the_row).row = record { owned = s.owned; leaving = s.leaving } in
    let job : IsSend Job.the_row = search (sendable, crosses) depth 40 fits 5000 in
    let deps : IsSend Deps.the_row = search (sendable, crosses) depth 40 fits 5000 in
    let contents : IsSend Contents.the_row = search (sendable, crosses) depth 40 fits 5000 in
    search (sendable, crosses) depth 40 fits 5000

pub returns-clause-gpu : goal.returns-clause-gpu
returns-clause-gpu c =
    let b = c.crosses_threads.ensures.board in
    let a = atomic.the_sync in
    let packets : IsSync WaitQueue.the_row = search sendable depth 20 in
    let board : IsSync (Board.the_field Driver.the_row Device.the_row Resv.the_row Task.the_row ward).row = record { shared = λ x o p κ. b.shared x o p κ } in
    search sendable depth 20

pub crosses_threads-requires-send-W-Pivot : goal.crosses_threads-requires-send-W-Pivot
crosses_threads-requires-send-W-Pivot c κs =
    let job : IsSend Job.the_row = search (sendable, crosses) depth 40 fits 5000 in
    search (sendable, crosses) depth 40 fits 5000
