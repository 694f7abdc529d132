use Rattle.std.proofs.Common.{rules}
use Rattle.drm_stream.proofs.input.to_input_error.Goals as goal

pub returns-in-Memory : goal.returns-in-Memory
returns-in-Memory c = search rules
