use Rattle.std.proofs.Common.{ℕ, ◌<◌, ◌≤◌, get_or}
use Rattle.drm_svg.proofs.placing.taken_at.Given as goal

abbrev pub invariant-loop-row : goal.invariant-loop-row
invariant-loop-row l = record {
  behind : l.first ≤ l.row;
  until : (k : ℕ) → l.first ≤ k → k < l.row → l.until ≤ get_or l.ends k 0;
  above : (k : ℕ) → l.first ≤ k → k < l.row → l.left < get_or l.ends k 0;
}
