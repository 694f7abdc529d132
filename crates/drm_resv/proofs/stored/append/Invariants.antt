use Rattle.std.proofs.Common.{◌≡◌, ◌++◌, take, vec_capacity}
use Rattle.drm_resv.proofs.stored.append.Given as goal

-- those so far stand behind what was there
abbrev pub invariant-loop-entry : goal.invariant-loop-entry
invariant-loop-entry l = record {
  items : l.fences.items ≡ l.fn.fences.items ++ take l.entry-index l.entries;
  room : vec_capacity l.fences ≡ vec_capacity l.fn.fences;
}
