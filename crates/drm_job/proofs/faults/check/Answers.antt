use Rattle.std.proofs.Common.{sym}
use Rattle.drm_job.proofs.faults.check.Goals as goal

pub of_sound-requires : goal.of_sound-requires
of_sound-requires c = (c.args.spec.now, sym c.in-None.ensures)
