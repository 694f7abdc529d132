use Rattle.std.proofs.Common.{◌≡◌, length}
use Rattle.drm_journal.specs.Journal.{IsRead, body_of, nothing_read}
use Rattle.drm_journal.proofs.journal.read_body.Given as goal

abbrev pub invariant-loop-line : goal.invariant-loop-line
invariant-loop-line l =
    (body_of l.spec l.reading l.lines.line l.lines.bytes l.lines.more ≡ body_of l.spec nothing_read l.fn.lines.line l.fn.lines.bytes l.fn.lines.more)
    × IsRead l.spec l.reading

abbrev pub decreases-loop-line : goal.decreases-loop-line
decreases-loop-line l = length l.lines.more
