use Rattle.std.proofs.Common.{arith}
use Rattle.drm_svg.proofs.layout.lay_out.Goals as goal

pub place_fences-requires : goal.place_fences-requires
place_fences-requires c = omega (arith, c.stack.new.ends.small)
