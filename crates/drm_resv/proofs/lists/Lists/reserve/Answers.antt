use Rattle.std.proofs.Common.{rules}
use Rattle.drm_resv.proofs.lists.Lists.reserve.Goals as goal

pub returns-in_err-reserve-clause-succeeds : goal.returns-in_err-reserve-clause-succeeds
returns-in_err-reserve-clause-succeeds c = search rules

pub returns-in_err-reserve-2-clause-succeeds : goal.returns-in_err-reserve-2-clause-succeeds
returns-in_err-reserve-2-clause-succeeds c = search rules

pub returns-clause-ok : goal.returns-clause-ok
returns-clause-ok c = search rules
