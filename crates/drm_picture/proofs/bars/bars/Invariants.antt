use Rattle.std.proofs.Common.{◌≡◌, drop, reverse}
use Rattle.std.specs.List.{enumerate_from, filter_map}
use Rattle.drm_picture.specs.Bars.{bar_at, kept_beyond}
use Rattle.drm_picture.specs.Ends.{AreNext}
use Rattle.drm_picture.specs.Packets.{AreCounted}
use Rattle.drm_picture.proofs.bars.bars.Given as goal

abbrev pub invariant-loop-place : goal.invariant-loop-place
invariant-loop-place l = record {
  next : AreNext l.kind l.run l.place l.next.items;
  counted : AreCounted l.kind (drop l.place l.run) l.ran.items;
  bars : reverse l.bars.items ≡ filter_map (λ p. kept_beyond l.from (bar_at l.kind l.run p)) (enumerate_from l.place (drop l.place l.run));
}
