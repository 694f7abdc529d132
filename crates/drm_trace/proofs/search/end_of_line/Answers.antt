use Rattle.std.proofs.Common.{◌∙◌}
use Rattle.drm_text.proofs.Cuts.{first_byte_is}
use Rattle.drm_trace.proofs.search.end_of_line.Goals as goal

pub returns : goal.returns
returns c = c.unwrap_or.ensures ∙ first_byte_is 10 c.args.bytes.now c.memchr.result c.memchr.ensures
