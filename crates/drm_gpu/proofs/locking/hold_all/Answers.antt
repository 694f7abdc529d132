use Rattle.std.proofs.Common.{◌∙◌}
use Rattle.drm_gpu.proofs.Claims.{taken_anew, taken_itself, taken_more}
use Rattle.drm_gpu.proofs.locking.hold_all.Goals as goal

pub loop-init : goal.loop-init
loop-init g c = taken_itself c.args.gpu.now c.args.job.now c.args.acquire.now c.requires.holding.0

pub lock_declared-requires-clause-holding : goal.lock_declared-requires-clause-holding
lock_declared-requires-clause-holding g c = (c.loop.invariant.holding, c.loop.invariant.sealed ∙ c.requires.holding.1)

pub release_all-requires : goal.release_all-requires
release_all-requires g c = c.in-Some-lock_declared.ensures.on.holding

pub lock_first-requires-clause-holding : goal.lock_first-requires-clause-holding
lock_first-requires-clause-holding g c =
    (c.release_all.ensures.holding.0, c.release_all.ensures.same.1 ∙ (c.in-Some-lock_declared.ensures.on.sealed ∙ (c.loop.invariant.sealed ∙ c.requires.holding.1)), c.release_all.ensures.holding.1)

pub loop-preserved : goal.loop-preserved
loop-preserved g c =
    let free = c.release_all.ensures in
    taken_anew c.args.gpu.now c.args.job.now c.in-Some-lock_declared.contended c.args.acquire.now c.loop.acquire c.lock_declared.new.acquire c.release_all.new.acquire c.lock_first.new.acquire
    c.loop.invariant c.in-Some-lock_declared.ensures.on free.same.0 free.same.1 free.pass c.lock_first.ensures

pub returns-in_default-clause-rounds : goal.returns-in_default-clause-rounds
returns-in_default-clause-rounds g c =
    taken_more c.args.gpu.now c.args.job.now c.args.acquire.now c.loop.acquire c.lock_declared.new.acquire c.loop.invariant c.in_default.ensures.on
