-- What is known of the first job in the queue of each entity.
use Rattle.std.specs.List.{All}
use Rattle.drm_state.specs.State.{DeviceState}
use Rattle.drm_reason.specs.Retired.{AreRetired}
use Rattle.drm_reason.specs.Watching.{Knows}
use Rattle.drm_perfetto.specs.declared.watches.Watches.{Watches}

-- what the watches know is so of a device, and the jobs that are said to have ended have
pub record AreKnown (device : DeviceState) (watches : Watches) : Type 0 where
  pub heads : All (Knows device) watches.heads.items
  pub retired : AreRetired device watches.retired
