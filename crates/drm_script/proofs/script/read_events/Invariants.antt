use Rattle.std.proofs.Common.{◌≡◌, [], length}
use Rattle.drm_core.specs.Run.{AllNamesExist}
use Rattle.drm_script.specs.Commands.{events_of}
use Rattle.drm_script.proofs.script.read_events.Given as goal

abbrev pub invariant-loop-line : goal.invariant-loop-line
invariant-loop-line l =
    (events_of l.spec l.events l.lines.line l.lines.bytes l.lines.more ≡ events_of l.spec [] l.fn.lines.line l.fn.lines.bytes l.fn.lines.more)
    × AllNamesExist l.spec l.events

abbrev pub decreases-loop-line : goal.decreases-loop-line
decreases-loop-line l = length l.lines.more
