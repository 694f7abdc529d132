use Rattle.drm_rules.proofs.judging.judge_queueing.Goals as goal

pub returns : goal.returns
returns c = λ seen are.
    rw (← c.queueing-first.ensures, ← c.queued-before.ensures c.args.index.now seen are) c.in_ok-judge_queued.ensures
