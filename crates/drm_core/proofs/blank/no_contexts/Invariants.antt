use Rattle.std.proofs.Common.{◌≡◌, ◌≤◌, None, replicate}
use Rattle.std.specs.Prelude.{vec_capacity}
use Rattle.drm_core.proofs.blank.no_contexts.Given as goal

-- so far, that many, and there is room for the others
abbrev pub invariant-loop : goal.invariant-loop
invariant-loop l = record {
  rows : l.rows.items ≡ replicate l.counter None;
  room : l.count ≤ vec_capacity l.rows;
}
