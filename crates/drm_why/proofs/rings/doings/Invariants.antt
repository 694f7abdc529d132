use Rattle.std.proofs.Common.{◌≡◌, ◌++◌, drop, map}
use Rattle.std.specs.List.{enumerate_from}
use Rattle.drm_why.specs.Rings.{doing_of, doings_of}
use Rattle.drm_why.proofs.rings.doings.Given as goal

abbrev pub invariant-loop-ring : goal.invariant-loop-ring
invariant-loop-ring l =
    l.doings.items ++ map (λ r. doing_of l.device.state r.0) (drop l.ring (enumerate_from 0 l.device.state.spec.rings)) ≡ doings_of l.device.state
