use Rattle.std.proofs.Common.{rules}
use Rattle.ww_lock.proofs.acquire.Acquire.done.Goals as goal

pub returns-clause-sealed : goal.returns-clause-sealed
returns-clause-sealed g c = search rules
