use Rattle.std.proofs.Common.{rules}
use Rattle.ww_lock.proofs.lifetime.take_value.Goals as goal

pub returns-then-holder-ne0-clause-value : goal.returns-then-holder-ne0-clause-value
returns-then-holder-ne0-clause-value g c = search rules

pub unreachable-requires : goal.unreachable-requires
unreachable-requires g c = search rules

pub returns-clause-value : goal.returns-clause-value
returns-clause-value g c = search rules
