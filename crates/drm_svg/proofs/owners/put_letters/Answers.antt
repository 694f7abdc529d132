use Rattle.std.proofs.Common.{◌++◌, List, ℕ, ap, arith}
use Rattle.std.specs.Prelude.{decimal}
use Rattle.drm_types.specs.declared.access.Access.{Access}
use Rattle.drm_svg.specs.Owners.{letter_of}
use Rattle.drm_svg.proofs.Pens.{adds_next, adds_same}
use Rattle.drm_svg.proofs.owners.put_letters.Goals as goal

pub loop-declaration-preserved : goal.loop-declaration-preserved
loop-declaration-preserved c = record {
  text =
      let f = λ (d : ℕ × Access). letter_of d.1 ++ decimal d.0 in
      adds_next f c.args.declared.now c.loop-declaration.declaration-index c.declaration-item.result c.loop-declaration-test.true
      c.loop-declaration.invariant.text (adds_same (ap f c.declaration-item.is) c.in_ok-put_letter.ensures.text);
  room = omega (arith, c.in_ok-put_letter.ensures.room);
}
