use Rattle.std.proofs.Common.{◌∙◌, [], ◌++◌, Option, ap, arith}
use Rattle.std.specs.List.{cons_option}
use Rattle.drm_picture.specs.Waiting.{waiting_at}
use Rattle.drm_picture.specs.declared.bars.Bar.{Bar}
use Rattle.drm_picture.proofs.Places.{kept_next}
use Rattle.drm_picture.proofs.waiting.push_waiting.Goals as goal

pub loop-declaration-preserved : goal.loop-declaration-preserved
loop-declaration-preserved c =
    c.in_ok-push_bar.ensures
    ∙ ap (λ (o : Option Bar). c.loop-declaration.bars.items ++ cons_option o []) c.longest_wait.ensures
    ∙ kept_next (waiting_at c.args.run.now c.args.fences.now c.args.place c.args.fence) c.args.declared.now c.loop-declaration.declaration-index c.declaration-item.result c.args.bars.now.items c.loop-declaration.bars.items
    (omega arith) c.declaration-item.is c.loop-declaration.invariant
