use Rattle.std.proofs.Common.{◌∙◌, ap, arith, sym}
use Rattle.drm_picture.specs.Commands.{moment_of}
use Rattle.drm_picture.proofs.Moments.{found_first, last_more, none_more}
use Rattle.drm_picture.proofs.columns.first_fall.Goals as goal

pub returns-then-is_earlier : goal.returns-then-is_earlier
returns-then-is_earlier c =
    let told = c.moment-now.ensures ∙ ap moment_of c.index-commands-place.is in
    sym (found_first c.args.commands.now c.loop-place.place c.index-commands-place.result _ _ (omega arith) told c.loop-place.invariant.told c.loop-place.invariant.none (sym c.is_earlier.ensures ∙ c.if-is_earlier.true))

pub loop-place-preserved : goal.loop-place-preserved
loop-place-preserved c =
    let told = c.moment-now.ensures ∙ ap moment_of c.index-commands-place.is in
    record {
      told = c.or-told.ensures ∙ last_more c.args.commands.now c.loop-place.place c.index-commands-place.result _ _ (omega arith) told c.loop-place.invariant.told;
      none = none_more c.args.commands.now c.loop-place.place c.index-commands-place.result _ _ (omega arith) told c.loop-place.invariant.told c.loop-place.invariant.none (sym c.is_earlier.ensures ∙ c.if-is_earlier.false);
    }
