use Rattle.std.proofs.Common.{◌∙◌, ◌++◌, ap}
use Rattle.drm_picture.proofs.Latest.{waits-before}
use Rattle.drm_picture.proofs.Reaching.{reaches_front}
use Rattle.drm_picture.proofs.waiting.push_waits.Goals as goal

pub returns : goal.returns
returns c =
    let before = c.armed_before-before.ensures in
    c.in_ok-push_waiting.ensures
    ∙ ap (λ l. c.args.bars.now.items ++ l)
    (waits-before c.args.run.now c.args.place c.args.fence c.args.fences.now c.armed_before-before.result.now before.0 c.args.declared.now before.1 c.requires.ends before.2)

pub push_waiting-requires-clause-reach : goal.push_waiting-requires-clause-reach
push_waiting-requires-clause-reach c =
    let before = c.armed_before-before.ensures in
    reaches_front c.args.fences.now c.armed_before-before.result.now c.args.reaches.now before.0 before.1 c.requires.reach
