use Rattle.std.proofs.Common.{◌≡◌, length, take}
use Rattle.drm_picture.specs.Reach.{AreReaches}
use Rattle.drm_picture.proofs.Reaching.{EndBy}
use Rattle.drm_picture.proofs.reach.reaches.Given as goal

abbrev pub invariant-loop-bar : goal.invariant-loop-bar
invariant-loop-bar l = record {
  count : length l.reaches.items ≡ l.bar-index;
  all : EndBy l.reach (take l.bar-index l.fences);
  reaches : AreReaches l.fences l.reaches.items;
}
