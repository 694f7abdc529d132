use Rattle.drm_types.proofs.FirstLaws.{each_told}
use Rattle.drm_types.proofs.spec.DeviceSpec.check_buffer_sizes.Goals as goal

pub returns : goal.returns
returns c = each_told _ _ _ _ _ _ c.bad_size.ensures.place c.as_slice.ensures c.each.ensures
