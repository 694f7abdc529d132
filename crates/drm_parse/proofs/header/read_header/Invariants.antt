use Rattle.std.proofs.Common.{◌≡◌, length}
use Rattle.drm_parse.specs.Header.{header_of, header_at}
use Rattle.drm_parse.proofs.header.read_header.Given as goal

abbrev pub invariant-loop-line : goal.invariant-loop-line
invariant-loop-line l =
    header_of l.spec l.section l.lines.line l.lines.bytes l.lines.more ≡ header_at l.fn.lines

abbrev pub decreases-loop-line : goal.decreases-loop-line
decreases-loop-line l = length l.lines.more
