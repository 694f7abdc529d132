use Rattle.std.proofs.Common.{rules}
use Rattle.drm_script.proofs.chunk.next_job.Goals as goal

pub unreachable-requires : goal.unreachable-requires
unreachable-requires c = search rules

pub returns : goal.returns
returns c = search rules
