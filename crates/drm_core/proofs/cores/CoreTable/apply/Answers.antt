use Rattle.std.proofs.Common.{rules}
use Rattle.drm_core.proofs.cores.CoreTable.apply.Goals as goal

pub returns-in-End-clause-step : goal.returns-in-End-clause-step
returns-in-End-clause-step c = search rules

pub returns-in-Pick-clause-step : goal.returns-in-Pick-clause-step
returns-in-Pick-clause-step c = search rules

pub returns-in-Read-clause-step : goal.returns-in-Read-clause-step
returns-in-Read-clause-step c = search rules

pub returns-in-Reap-clause-step : goal.returns-in-Reap-clause-step
returns-in-Reap-clause-step c = search rules
