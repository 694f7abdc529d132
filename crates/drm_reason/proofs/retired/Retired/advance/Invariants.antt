use Rattle.std.proofs.Common.{◌≡◌}
use Rattle.drm_reason.specs.Retired.{AreRetired}
use Rattle.drm_reason.proofs.retired.Retired.advance.Given as goal

abbrev pub invariant-loop-number : goal.invariant-loop-number
invariant-loop-number l = record {
  here : l.self.below ≡ l.number;
  retired : AreRetired l.device.state l.self;
}
