use Rattle.std.proofs.Common.{rules}
use Rattle.drm_parse.specs.Job.{packet_from}
use Rattle.drm_parse.proofs.job.read_packet.Goals as goal

pub returns-then-is_word-3 : goal.returns-then-is_word-3
unfolding packet_from
returns-then-is_word-3 c = search rules

pub returns : goal.returns
unfolding packet_from
returns c = search rules
