use Rattle.std.proofs.Common.{◌∙◌}
use Rattle.drm_text.proofs.Cuts.{first_byte_is}
use Rattle.drm_text.proofs.parts.end_of_many.Goals as goal

pub returns : goal.returns
returns c = c.unwrap_or.ensures ∙ first_byte_is c.args.separator c.args.bytes.now c.memchr.result c.memchr.ensures
