use Rattle.std.proofs.Common.{refl}
use Rattle.drm_svg.proofs.layout.Layout.buffer_bars.Goals as goal

pub returns-in-Some-find_lane : goal.returns-in-Some-find_lane
returns-in-Some-find_lane c =
    let found = rw (c.in-Some-find_lane.is, c.deref.ensures.value) at c.find_lane.ensures in
    rw (c.in-Some.is, ← found) refl
