use Rattle.std.proofs.Common.{◌≡◌, length, map, take}
use Rattle.drm_tests.proofs.buffers_of.Given as goal

abbrev pub invariant-loop-list : goal.invariant-loop-list
invariant-loop-list l = record {
  bytes : l.buffers ≡ map (λ list. list.now) (take l.list-index l.lists);
  count : length l.buffers ≡ l.list-index;
}
