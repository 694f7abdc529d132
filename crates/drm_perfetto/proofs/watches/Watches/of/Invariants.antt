use Rattle.std.specs.List.{All}
use Rattle.drm_state.specs.State.{DeviceState}
use Rattle.drm_reason.specs.Watching.{Knows}
use Rattle.drm_perfetto.proofs.watches.Watches.of.Given as goal

abbrev pub invariant-loop : goal.invariant-loop
invariant-loop l = (device : DeviceState) → All (Knows device) l.heads.items
