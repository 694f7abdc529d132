use Rattle.std.proofs.Common.{◌≡◌, ◌≤◌}
use Rattle.drm_trace.specs.Bytes.{word_start}
use Rattle.drm_trace.proofs.search.start_of_word.Given as goal

abbrev pub invariant-loop-start : goal.invariant-loop-start
invariant-loop-start l = record {
  before : l.start ≤ l.at;
  same : word_start l.bytes l.start ≡ word_start l.bytes l.at;
}

abbrev pub decreases-loop-start : goal.decreases-loop-start
decreases-loop-start l = l.start
