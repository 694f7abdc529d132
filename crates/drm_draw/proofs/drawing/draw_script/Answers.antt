use Rattle.std.proofs.Common.{◌∙◌, refl}
use Rattle.drm_engine.proofs.Pieces.{played}
use Rattle.drm_draw.specs.Drawing.{AreSteps}
use Rattle.drm_draw.proofs.Drawn.{drawn_of, too_long, untouched}
use Rattle.drm_draw.proofs.drawing.draw_script.Goals as goal

pub returns-then-part-gt-MOST_DRAWN-clause-ending : goal.returns-then-part-gt-MOST_DRAWN-clause-ending
returns-then-part-gt-MOST_DRAWN-clause-ending g c =
    let of = played c.args.script c.in-Ok-build.core c.take_steps.new.core c.args.script.lines (λ answers. AreSteps c.args.script.lines answers c.in-Ok-take_steps.steps.items)
    c.every_run_is_lawful.ensures c.headline.ensures c.in-Ok-build.ensures.ok.0 refl c.requires.exist c.in-Ok-take_steps.ensures in (
      too_long c.args.script c.args.from c.args.to c.in-Ok-take_steps.steps.items c.deref.result.now c.part.result.now of c.deref.ensures.value c.part.ensures c.if-part-gt-MOST_DRAWN.true,
      untouched _,
    )

pub returns-in-Ok-put_all-clause-ending : goal.returns-in-Ok-put_all-clause-ending
returns-in-Ok-put_all-clause-ending g c =
    let of = played c.args.script c.in-Ok-build.core c.take_steps.new.core c.args.script.lines (λ answers. AreSteps c.args.script.lines answers c.in-Ok-take_steps.steps.items)
    c.every_run_is_lawful.ensures c.headline.ensures c.in-Ok-build.ensures.ok.0 refl c.requires.exist c.in-Ok-take_steps.ensures in (
      c.in-Ok-text_of.text.items,
      drawn_of c.args.script c.args.axis c.args.from c.args.to c.in-Ok-take_steps.steps.items c.deref-3.result.now c.shape-shape.result c.deref-2.result.now c.in-Ok-text_of.text.items of c.shape-shape.ensures (c.deref-2.ensures.value ∙ c.in-Ok.ensures) c.deref-3.ensures.value c.in-Ok-text_of.ensures,
      rw c.deref-4.ensures.value at c.in-Ok-put_all.ensures.ok,
    )

pub returns-clause-ending : goal.returns-clause-ending
returns-clause-ending g c =
    let of = played c.args.script c.in-Ok-build.core c.take_steps.new.core c.args.script.lines (λ answers. AreSteps c.args.script.lines answers c.in-Ok-take_steps.steps.items)
    c.every_run_is_lawful.ensures c.headline.ensures c.in-Ok-build.ensures.ok.0 refl c.requires.exist c.in-Ok-take_steps.ensures in (
      c.in-Ok-text_of.text.items,
      drawn_of c.args.script c.args.axis c.args.from c.args.to c.in-Ok-take_steps.steps.items c.deref-3.result.now c.shape-shape.result c.deref-2.result.now c.in-Ok-text_of.text.items of c.shape-shape.ensures (c.deref-2.ensures.value ∙ c.in-Ok.ensures) c.deref-3.ensures.value c.in-Ok-text_of.ensures,
      rw c.deref-4.ensures.value at c.in-Err.ensures.err,
    )

pub returns-then-part-gt-MOST_DRAWN-clause-failures : goal.returns-then-part-gt-MOST_DRAWN-clause-failures
returns-then-part-gt-MOST_DRAWN-clause-failures g c = λ before after read. (read, refl)

pub returns-in-Ok-put_all-clause-failures : goal.returns-in-Ok-put_all-clause-failures
returns-in-Ok-put_all-clause-failures g c = λ before after read. (read, c.in-Ok-put_all.ensures.failures)

pub returns-clause-failures : goal.returns-clause-failures
returns-clause-failures g c = λ before after read. (read, c.in-Err.ensures.failures)
