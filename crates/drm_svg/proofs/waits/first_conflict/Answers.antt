use Rattle.std.proofs.Common.{refl}
use Rattle.drm_svg.proofs.waits.first_conflict.Goals as goal

pub returns-in-Some-find_conflict : goal.returns-in-Some-find_conflict
returns-in-Some-find_conflict c =
    let found = rw (c.in-Some-find_conflict.is, c.as_slice.ensures) at c.find_conflict.ensures in
    rw (c.in-Some.is, ← found, c.number.ensures) refl
