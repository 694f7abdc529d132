use Rattle.std.proofs.Common.{◌∙◌, Some, ap}
use Rattle.drm_picture.specs.declared.bars.Bar.{Bar}
use Rattle.drm_picture.proofs.Latest.{waits-behind, waits-none}
use Rattle.drm_picture.proofs.waiting.longest_wait.Goals as goal

pub returns-then-place-end : goal.returns-then-place-end
returns-then-place-end c =
    ap (λ (bar : Bar). Some bar) c.wait_to.ensures
    ∙ waits-behind c.args.run.now c.args.place c.args.fence c.args.declared.now c.args.fences.now c.number.result c.latest_end-end.result c.requires.ends c.number.ensures c.latest_end-end.ensures c.if-place-end.true

pub returns-else-place-end : goal.returns-else-place-end
returns-else-place-end c = waits-none c.args.run.now c.args.place c.args.fence c.args.declared.now c.args.fences.now c.latest_end-end.result c.requires.ends c.latest_end-end.ensures c.if-place-end.false
