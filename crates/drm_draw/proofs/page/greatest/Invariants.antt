use Rattle.std.proofs.Common.{◌≡◌, drop}
use Rattle.std.specs.Prelude.{fold}
use Rattle.drm_picture.specs.Commands.{moment_of}
use Rattle.drm_draw.specs.Page.{greater_of, greatest_of}
use Rattle.drm_draw.proofs.page.greatest.Given as goal

abbrev pub invariant-loop-command : goal.invariant-loop-command
invariant-loop-command l = fold (λ most command. greater_of most (moment_of command)) l.most (drop l.command-index l.commands) ≡ greatest_of l.commands
