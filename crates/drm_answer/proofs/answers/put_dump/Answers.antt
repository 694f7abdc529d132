use Rattle.std.proofs.Common.{rules}
use Rattle.drm_answer.proofs.answers.put_dump.Goals as goal

pub returns : goal.returns
returns c = search rules
