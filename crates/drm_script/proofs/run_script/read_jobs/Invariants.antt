use Rattle.std.proofs.Common.{◌≡◌, [], length}
use Rattle.drm_script.specs.Run.{jobs_of}
use Rattle.drm_script.proofs.run_script.read_jobs.Given as goal

abbrev pub invariant-loop-line : goal.invariant-loop-line
invariant-loop-line l = jobs_of l.spec l.jobs l.lines.line l.lines.bytes l.lines.more ≡ jobs_of l.spec [] l.fn.lines.line l.fn.lines.bytes l.fn.lines.more

abbrev pub decreases-loop-line : goal.decreases-loop-line
decreases-loop-line l = length l.lines.more
