use Rattle.std.proofs.Common.{take}
use Rattle.drm_picture.specs.Columns.{IsPeriod}
use Rattle.drm_picture.proofs.columns.period_of.Given as goal

abbrev pub invariant-loop-command : goal.invariant-loop-command
invariant-loop-command l = IsPeriod (take l.command-index l.commands) l.period
