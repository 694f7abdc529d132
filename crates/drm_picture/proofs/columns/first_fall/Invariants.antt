use Rattle.std.proofs.Common.{◌≡◌, take}
use Rattle.drm_picture.specs.Columns.{last_moment}
use Rattle.drm_picture.proofs.Moments.{NoneFalls}
use Rattle.drm_picture.proofs.columns.first_fall.Given as goal

abbrev pub invariant-loop-place : goal.invariant-loop-place
invariant-loop-place l = record {
  told : l.told ≡ last_moment (take l.place l.commands);
  none : NoneFalls l.commands l.place;
}
