use Rattle.std.proofs.Common.{◌∙◌}
use Rattle.drm_picture.proofs.Lasts.{lasts-before}
use Rattle.drm_picture.proofs.Reaching.{reaches_front}
use Rattle.drm_picture.proofs.waits.last_jobs.Goals as goal

pub returns : goal.returns
returns c =
    let before = c.armed_before-before.ensures in
    c.reverse.ensures.items
    ∙ c.in_ok-jobs.ensures
    ∙ lasts-before c.args.run.now c.args.place c.args.later.now c.args.fences.now c.armed_before-before.result.now before.0 before.1 before.2

pub lasts_from_end-requires-clause-reach : goal.lasts_from_end-requires-clause-reach
lasts_from_end-requires-clause-reach c =
    let before = c.armed_before-before.ensures in
    reaches_front c.args.fences.now c.armed_before-before.result.now c.args.reaches.now before.0 before.1 c.requires.reach
