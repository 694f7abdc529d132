use Rattle.std.proofs.Common.{rules}
use Rattle.drm_script.specs.Commands.{event_at}
use Rattle.drm_script.proofs.command.read_finish.Goals as goal

pub returns-clause-value : goal.returns-clause-value
unfolding event_at
returns-clause-value c = search rules
