use Rattle.std.proofs.Common.{rules}
use Rattle.drm_script.specs.Commands.{ring_and_moment_at}
use Rattle.drm_script.proofs.command.read_ring_and_moment.Goals as goal

pub returns-in_err-ring-clause-value : goal.returns-in_err-ring-clause-value
unfolding ring_and_moment_at
returns-in_err-ring-clause-value c = search rules

pub returns-in_err-now-clause-value : goal.returns-in_err-now-clause-value
unfolding ring_and_moment_at
returns-in_err-now-clause-value c = search rules

pub returns-clause-value : goal.returns-clause-value
unfolding ring_and_moment_at
returns-clause-value c = search rules

pub returns-clause-exist : goal.returns-clause-exist
unfolding ring_and_moment_at
returns-clause-exist c = search rules
