use Rattle.std.proofs.Common.{[], sym, subst, take}
use Rattle.std.proofs.lemmas.List.{take_all}
use Rattle.drm_state.specs.Collected.{IsCollected}
use Rattle.drm_state.specs.Held.{kept_of}
use Rattle.drm_state.proofs.Collected.{collected_nothing, kept_more}
use Rattle.drm_gpu.proofs.boxed_plan.collect_held.Goals as goal

pub loop-buffer-init : goal.loop-buffer-init
loop-buffer-init c = subst (IsCollected c.args.job.now []) (sym c.clear.ensures) (collected_nothing c.args.job.now)

pub loop-buffer-preserved : goal.loop-buffer-preserved
loop-buffer-preserved c =
    let held = c.args.held.now in
    let i = c.loop-buffer.buffer-index in
    let h = c.loop-buffer-item.result in
    let added = c.add_held.ensures (kept_of (take i held)) c.loop-buffer.invariant in
    subst (λ hs. IsCollected c.args.job.now hs c.add_held.new.deps) (sym (kept_more held i h c.loop-buffer-test.true c.loop-buffer-item.is)) added

pub returns-clause-collected : goal.returns-clause-collected
returns-clause-collected c =
    subst (λ hs. IsCollected c.args.job.now (kept_of hs) c.loop-buffer.deps) (take_all c.loop-buffer.buffer-index c.args.held.now c.loop-buffer-test.false) c.loop-buffer.invariant

pub returns-clause-covers : goal.returns-clause-covers
returns-clause-covers c holds =
    c.collected_covers.ensures c.args.job.now (kept_of c.args.held.now) c.loop-buffer.deps holds
    (subst (λ hs. IsCollected c.args.job.now (kept_of hs) c.loop-buffer.deps) (take_all c.loop-buffer.buffer-index c.args.held.now c.loop-buffer-test.false) c.loop-buffer.invariant)
