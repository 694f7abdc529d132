use Rattle.std.proofs.Common.{refl}
use Rattle.drm_buffer.proofs.Lanes.{stored}
use Rattle.drm_buffer.proofs.ranges.add_lanes.Goals as goal

pub returns : goal.returns
returns c = stored _ (λ x y. refl) c.args.target.now c.args.source.now c.args.target_offset c.args.source_offset 16 c.requires.target c.requires.source
