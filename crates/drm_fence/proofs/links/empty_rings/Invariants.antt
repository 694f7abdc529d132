use Rattle.std.proofs.Common.{◌≡◌, ℕ, ◌+◌, ◌<◌, length}
use Rattle.std.specs.Prelude.{vec_capacity}
use Rattle.drm_fence.specs.Linked.{before_of, behind_of}
use Rattle.drm_fence.proofs.links.empty_rings.Given as goal

abbrev pub invariant-loop-place : goal.invariant-loop-place
invariant-loop-place l = record {
  count : length l.links.items ≡ l.place;
  room : vec_capacity l.links ≡ l.places + l.more;
  behind : (k : ℕ) → k < l.place → behind_of l.links.items k ≡ k;
  before : (k : ℕ) → k < l.place → before_of l.links.items k ≡ k;
}
