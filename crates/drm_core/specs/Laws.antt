-- What the laws say of every device.
use Rattle.drm_state.specs.Chosen.{ChoiceIsLeast}
use Rattle.drm_state.specs.Events.{DevicesStaySteady}
use Rattle.drm_state.specs.Writers.{ReadsWaitForWriters}

pub record DeviceLaws : Type 0 where
  pub steady : DevicesStaySteady
  pub reads : ReadsWaitForWriters
  pub choice : ChoiceIsLeast
