use Rattle.std.proofs.Common.{rules}
use Rattle.drm_parse.specs.Job.{route_in_turn}
use Rattle.drm_parse.proofs.job.read_route.Goals as goal

pub returns : goal.returns
unfolding route_in_turn
returns c = search rules
