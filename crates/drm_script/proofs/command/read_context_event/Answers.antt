use Rattle.std.proofs.Common.{rules}
use Rattle.drm_script.specs.Commands.{event_at}
use Rattle.drm_script.proofs.command.read_context_event.Goals as goal

pub returns-in_ok-push-in-Drop-clause-value : goal.returns-in_ok-push-in-Drop-clause-value
unfolding event_at
returns-in_ok-push-in-Drop-clause-value c = search rules
