use Rattle.std.proofs.Common.{◌≡◌, length}
use Rattle.drm_core.specs.Lawful.{IsLawful}
use Rattle.drm_core.specs.Run.{AllNamesExist}
use Rattle.drm_reason.specs.Retired.{AreRetired}
use Rattle.drm_reason.specs.Watching.{Knows}
use Rattle.drm_why.specs.Seeing.{reason_behind}
use Rattle.drm_why.proofs.Sights.{SeesOn}
use Rattle.drm_why.proofs.seeing.take_seen.Given as goal

abbrev pub invariant-loop-event : goal.invariant-loop-event
invariant-loop-event l = record {
  names : AllNamesExist l.core.device.spec l.rest;
  lawful : IsLawful l.core;
  so_far : SeesOn l.fn.fence l.fn.core l.fn.events l.seens.items (reason_behind l.seens.items) l.core l.rest;
  retired : AreRetired l.core.device l.retired;
  known : Knows l.core.device l.watch;
  fence : l.watch.fence ≡ l.fn.fence;
}

abbrev pub decreases-loop-event : goal.decreases-loop-event
decreases-loop-event l = length l.rest
