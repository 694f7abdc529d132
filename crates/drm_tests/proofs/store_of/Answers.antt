use Rattle.std.proofs.Common.{rules}
use Rattle.drm_tests.proofs.store_of.Goals as goal

pub returns : goal.returns
returns c = search rules
