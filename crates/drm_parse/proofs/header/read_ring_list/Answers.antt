use Rattle.std.proofs.Common.{rules}
use Rattle.drm_parse.specs.Header.{with_rings}
use Rattle.drm_parse.proofs.header.read_ring_list.Goals as goal

pub loop-piece-preserved : goal.loop-piece-preserved
unfolding with_rings
loop-piece-preserved c = search rules

pub returns-in_err-ring : goal.returns-in_err-ring
unfolding with_rings
returns-in_err-ring c = search rules
