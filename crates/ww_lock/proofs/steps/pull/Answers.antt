use Rattle.std.proofs.Common.{rules}
use Rattle.ww_lock.proofs.steps.pull.Goals as goal

pub exchange-requires : goal.exchange-requires
exchange-requires g c = search rules
