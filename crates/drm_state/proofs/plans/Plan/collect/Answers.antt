use Rattle.std.proofs.Common.{◌+◌, [], sym, subst, take, refl}
use Rattle.std.proofs.lemmas.List.{take_all}
use Rattle.drm_state.specs.Collected.{IsCollected}
use Rattle.drm_state.specs.Held.{kept_of}
use Rattle.drm_state.proofs.Collected.{collected_nothing, kept_more}
use Rattle.drm_state.proofs.plans.Plan.collect.Goals as goal

pub loop-buffer-init : goal.loop-buffer-init
loop-buffer-init c = (refl, subst (IsCollected c.args.job []) (sym c.new.ensures) (collected_nothing c.args.job))

pub loop-buffer-preserved : goal.loop-buffer-preserved
loop-buffer-preserved c =
    let held = c.args.held.now in
    let i = c.loop-buffer.buffer-index in
    let h = c.loop-buffer-item.result in
    let job = c.loop-buffer.invariant.0 in
    let added = c.add_held.ensures (kept_of (take i held)) (subst (λ j. IsCollected j (kept_of (take i held)) c.loop-buffer.plan.deps) (sym job) c.loop-buffer.invariant.1) in (
      job,
      subst (λ j. IsCollected j (kept_of (take (i + 1) held)) c.add_held.new.deps) job
          (subst (λ hs. IsCollected c.loop-buffer.plan.job hs c.add_held.new.deps) (sym (kept_more held i h c.loop-buffer-test.true c.loop-buffer-item.is)) added),
    )

pub returns-clause-job : goal.returns-clause-job
returns-clause-job c = c.loop-buffer.invariant.0

pub returns-clause-collected : goal.returns-clause-collected
returns-clause-collected c =
    subst (λ hs. IsCollected c.args.job (kept_of hs) c.loop-buffer.plan.deps) (take_all c.loop-buffer.buffer-index c.args.held.now c.loop-buffer-test.false) c.loop-buffer.invariant.1

pub returns-clause-covers : goal.returns-clause-covers
returns-clause-covers c holds =
    c.collected_covers.ensures c.args.job (kept_of c.args.held.now) c.loop-buffer.plan.deps holds
    (subst (λ hs. IsCollected c.args.job (kept_of hs) c.loop-buffer.plan.deps) (take_all c.loop-buffer.buffer-index c.args.held.now c.loop-buffer-test.false) c.loop-buffer.invariant.1)
