use Rattle.std.proofs.Common.{length}
use Rattle.drm_core.specs.Lawful.{IsLawful}
use Rattle.drm_core.specs.Run.{AllNamesExist}
use Rattle.drm_reason.specs.Retired.{AreRetired}
use Rattle.drm_why.proofs.Rows.{RowsOn}
use Rattle.drm_why.proofs.rings.take_rows.Given as goal

abbrev pub invariant-loop-event : goal.invariant-loop-event
invariant-loop-event l = record {
  names : AllNamesExist l.core.device.spec l.rest;
  lawful : IsLawful l.core;
  retired : AreRetired l.core.device l.retired;
  so_far : RowsOn l.fn.core l.fn.events l.rows.items l.clock l.core l.rest;
}

abbrev pub decreases-loop-event : goal.decreases-loop-event
decreases-loop-event l = length l.rest
