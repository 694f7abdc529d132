use Rattle.std.proofs.Common.{◌≡◌, [], length}
use Rattle.drm_journal.specs.Journal.{body_of, nothing_read}
use Rattle.drm_journal.proofs.Turns.{RunsOn}
use Rattle.drm_journal.proofs.running.run_body.Given as goal

abbrev pub invariant-loop-line : goal.invariant-loop-line
invariant-loop-line l = record {
  so_far : RunsOn l.spec (body_of l.spec nothing_read l.fn.lines.line l.fn.lines.bytes l.fn.lines.more) l.armed l.reading l.machine l.lines;
  none : l.reading.jobs ≡ [];
}

abbrev pub decreases-loop-line : goal.decreases-loop-line
decreases-loop-line l = length l.lines.more
